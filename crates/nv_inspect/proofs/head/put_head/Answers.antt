use Rattle.std.proofs.Common.{◌++◌, codes}
use Rattle.nv_outside.proofs.Writing.{puts-then, puts-failed}
use Rattle.nv_inspect.specs.Shown.{standing_text}
use Rattle.nv_inspect.proofs.head.put_head.Goals as goal

pub returns-in_err-put_place : goal.returns-in_err-put_place
returns-in_err-put_place g c = puts-failed (standing_text c.args.fate ++ codes "\n") c.from_residual.ensures.0 c.in_err-put_place.ensures

pub returns : goal.returns
returns g c = puts-then c.in_ok-put_place.ensures (puts-then c.in_ok-put_end.ensures c.put_all.ensures)

pub returns-in_err-put_end : goal.returns-in_err-put_end
returns-in_err-put_end g c = puts-then c.in_ok-put_place.ensures (puts-failed (codes "\n") c.from_residual-in_err-put_end.ensures.0 c.in_err-put_end.ensures)
