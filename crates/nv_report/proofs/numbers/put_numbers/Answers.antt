use Rattle.nv_outside.proofs.Writing.{puts-stopped}
use Rattle.nv_report.specs.Numbers.{number_text}
use Rattle.nv_report.proofs.numbers.put_numbers.Goals as goal

pub returns-in_err-put_number : goal.returns-in_err-put_number
returns-in_err-put_number g c =
    puts-stopped number_text c.args.numbers.now c.loop-number.number-index 0 c.loop-number-test.true c.from_residual.ensures.0 c.loop-number.invariant c.in_err-put_number.ensures
