use Rattle.std.specs.List.{flat_map}
use Rattle.nv_outside.proofs.Writing.{puts-then, puts-failed}
use Rattle.nv_report.specs.Numbers.{number_text}
use Rattle.nv_report.proofs.events.put_call.Goals as goal

pub returns : goal.returns
returns g c = puts-then c.in_ok-put_numbers.ensures c.put_numbers-2.ensures

pub returns-in_err-put_numbers : goal.returns-in_err-put_numbers
returns-in_err-put_numbers g c = puts-failed (flat_map number_text c.args.event.now.call.args) c.from_residual.ensures.0 c.in_err-put_numbers.ensures
