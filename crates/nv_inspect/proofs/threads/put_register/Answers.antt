use Rattle.std.proofs.Common.{ap}
use Rattle.std.specs.Prelude.{slice_index}
use Rattle.nv_outside.proofs.Writing.{puts-is, puts-then, puts-failed}
use Rattle.nv_inspect.specs.Shown.{word_text}
use Rattle.nv_inspect.proofs.threads.put_register.Goals as goal

pub returns : goal.returns
returns g c = puts-then c.in_ok-put_all.ensures (puts-is (ap word_text c.get.ensures) c.put_word.ensures)

pub returns-in_err-put_all : goal.returns-in_err-put_all
returns-in_err-put_all g c = puts-failed (word_text (slice_index c.args.regs.now.x c.args.n)) c.from_residual.ensures.0 c.in_err-put_all.ensures
