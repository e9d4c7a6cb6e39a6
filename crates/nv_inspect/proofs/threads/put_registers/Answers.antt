use Rattle.std.proofs.Common.{◌++◌, codes}
use Rattle.nv_outside.proofs.Writing.{puts-then, puts-failed}
use Rattle.nv_inspect.specs.Firsts.{texts_below}
use Rattle.nv_inspect.specs.Shown.{register_text}
use Rattle.nv_inspect.proofs.threads.put_registers.Goals as goal

pub returns-in_err-put_all : goal.returns-in_err-put_all
returns-in_err-put_all g c = puts-failed (texts_below (register_text c.args.regs.now) 32 ++ codes "\n") c.from_residual.ensures.0 c.in_err-put_all.ensures

pub returns : goal.returns
returns g c = puts-then c.in_ok-put_all.ensures (puts-then c.in_ok-put_each_register.ensures c.put_all-2.ensures)

pub returns-in_err-put_each_register : goal.returns-in_err-put_each_register
returns-in_err-put_each_register g c = puts-then c.in_ok-put_all.ensures (puts-failed (codes "\n") c.from_residual-in_err-put_each_register.ensures.0 c.in_err-put_each_register.ensures)
