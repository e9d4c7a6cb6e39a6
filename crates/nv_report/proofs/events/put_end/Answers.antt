use Rattle.std.proofs.Common.{codes}
use Rattle.nv_outside.proofs.Writing.{puts-then, puts-failed}
use Rattle.nv_report.proofs.events.put_end.Goals as goal

pub returns : goal.returns
returns g c = puts-then c.in_ok-put_payload.ensures c.put_all.ensures

pub returns-in_err-put_payload : goal.returns-in_err-put_payload
returns-in_err-put_payload g c = puts-failed (codes "\n") c.from_residual.ensures.0 c.in_err-put_payload.ensures
