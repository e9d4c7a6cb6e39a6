use Rattle.std.proofs.Common.{◌≡◌, ◌<◌, ◌+◌, sym, arith}
use Rattle.nv_outside.proofs.Writing.{puts-is, puts-none}
use Rattle.nv_inspect.specs.Shown.{memory_line}
use Rattle.nv_inspect.proofs.Writes.{firsts-none, puts-next, puts-short, puts-every}
use Rattle.std.proofs.Common.{◌/◌}
use Rattle.nv_inspect.proofs.dump.put_range.Goals as goal

pub loop-i-init : goal.loop-i-init
loop-i-init g c = puts-is (sym (firsts-none (memory_line c.args.memory.now c.args.address c.args.length))) (puts-none _ _)

pub loop-i-preserved : goal.loop-i-preserved
loop-i-preserved g c = puts-next (memory_line c.args.memory.now c.args.address c.args.length) c.loop-i.i c.loop-i.invariant c.in_ok-put_line.ensures

pub returns-in_err-put_line : goal.returns-in_err-put_line
returns-in_err-put_line g c = let less : c.loop-i.i < (c.args.length + 15) / 16 = omega arith in puts-short (memory_line c.args.memory.now c.args.address c.args.length) c.loop-i.i ((c.args.length + 15) / 16) less c.from_residual.ensures.0 c.loop-i.invariant c.in_err-put_line.ensures

pub returns : goal.returns
returns g c = let same : c.loop-i.i ≡ ((c.args.length + 15) / 16) = omega arith in puts-every (memory_line c.args.memory.now c.args.address c.args.length) c.loop-i.i ((c.args.length + 15) / 16) same c.loop-i.invariant
