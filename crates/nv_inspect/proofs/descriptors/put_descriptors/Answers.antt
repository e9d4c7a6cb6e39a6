use Rattle.std.proofs.Common.{◌≡◌, sym, arith}
use Rattle.nv_outside.proofs.Writing.{puts-is, puts-none}
use Rattle.nv_inspect.specs.Shown.{descriptor_text}
use Rattle.nv_inspect.proofs.Writes.{firsts-none, puts-next, puts-short, puts-every}
use Rattle.nv_inspect.proofs.descriptors.put_descriptors.Goals as goal

pub loop-fd-init : goal.loop-fd-init
loop-fd-init g c = puts-is (sym (firsts-none (descriptor_text c.args.files.now.state))) (puts-none _ _)

pub loop-fd-preserved : goal.loop-fd-preserved
loop-fd-preserved g c = puts-next (descriptor_text c.args.files.now.state) c.loop-fd.fd c.loop-fd.invariant c.in_ok-put_descriptor.ensures

pub returns-in_err-put_descriptor : goal.returns-in_err-put_descriptor
returns-in_err-put_descriptor g c = puts-short (descriptor_text c.args.files.now.state) c.loop-fd.fd 64 c.loop-fd-test.true c.from_residual.ensures.0 c.loop-fd.invariant c.in_err-put_descriptor.ensures

pub returns : goal.returns
returns g c = let same : c.loop-fd.fd ≡ 64 = omega arith in puts-every (descriptor_text c.args.files.now.state) c.loop-fd.fd 64 same c.loop-fd.invariant
