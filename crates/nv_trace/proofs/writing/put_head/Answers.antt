use Rattle.std.proofs.Common.{◌∷◌, []}
use Rattle.nv_outside.proofs.Writing.{puts-then, puts-failed}
use Rattle.nv_trace.specs.Trace.{number_bytes, head_bytes}
use Rattle.nv_trace.proofs.writing.put_head.Goals as goal

pub returns : goal.returns
unfolding head_bytes
returns g c = puts-then c.in_ok-put_all.ensures c.put_numbers.ensures

pub returns-in_err-put_all : goal.returns-in_err-put_all
unfolding head_bytes
returns-in_err-put_all g c = puts-failed (number_bytes (c.args.count ∷ [])) c.from_residual.ensures.0 c.in_err-put_all.ensures
