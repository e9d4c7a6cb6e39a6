use Rattle.std.proofs.Common.{◌≡◌, sym, arith}
use Rattle.nv_outside.proofs.Writing.{puts-is, puts-none}
use Rattle.nv_inspect.specs.Shown.{register_text}
use Rattle.nv_inspect.proofs.Writes.{firsts-none, puts-next, puts-short, puts-every}
use Rattle.nv_inspect.proofs.threads.put_each_register.Goals as goal

pub loop-n-init : goal.loop-n-init
loop-n-init g c = puts-is (sym (firsts-none (register_text c.args.regs.now))) (puts-none _ _)

pub loop-n-preserved : goal.loop-n-preserved
loop-n-preserved g c = puts-next (register_text c.args.regs.now) c.loop-n.n c.loop-n.invariant c.in_ok-put_register.ensures

pub returns-in_err-put_register : goal.returns-in_err-put_register
returns-in_err-put_register g c = puts-short (register_text c.args.regs.now) c.loop-n.n 32 c.loop-n-test.true c.from_residual.ensures.0 c.loop-n.invariant c.in_err-put_register.ensures

pub returns : goal.returns
returns g c = let same : c.loop-n.n ≡ 32 = omega arith in puts-every (register_text c.args.regs.now) c.loop-n.n 32 same c.loop-n.invariant
