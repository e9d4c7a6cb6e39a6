use Rattle.std.proofs.Common.{◌≡◌, sym, arith}
use Rattle.nv_outside.proofs.Writing.{puts-is, puts-none}
use Rattle.nv_inspect.specs.Shown.{byte_text}
use Rattle.nv_inspect.proofs.Writes.{firsts-none, puts-next, puts-short, puts-every}
use Rattle.nv_inspect.proofs.dump.put_bytes.Goals as goal

pub loop-i-init : goal.loop-i-init
loop-i-init g c = puts-is (sym (firsts-none (byte_text c.args.memory.now c.args.address))) (puts-none _ _)

pub loop-i-preserved : goal.loop-i-preserved
loop-i-preserved g c = puts-next (byte_text c.args.memory.now c.args.address) c.loop-i.i c.loop-i.invariant c.in_ok-put_byte.ensures

pub returns-in_err-put_byte : goal.returns-in_err-put_byte
returns-in_err-put_byte g c = puts-short (byte_text c.args.memory.now c.args.address) c.loop-i.i c.args.length c.loop-i-test.true c.from_residual.ensures.0 c.loop-i.invariant c.in_err-put_byte.ensures

pub returns : goal.returns
returns g c = let same : c.loop-i.i ≡ c.args.length = omega arith in puts-every (byte_text c.args.memory.now c.args.address) c.loop-i.i c.args.length same c.loop-i.invariant
