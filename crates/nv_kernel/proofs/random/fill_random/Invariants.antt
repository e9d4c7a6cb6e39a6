use Rattle.std.proofs.Common.{◌≡◌, take}
use Rattle.nv_kernel.specs.Serving.{randoms, random_after}
use Rattle.nv_kernel.proofs.random.fill_random.Given as goal

abbrev pub invariant-loop-i : goal.invariant-loop-i
invariant-loop-i l = (take l.i l.bytes ≡ randoms l.i l.state) × (l.now ≡ random_after l.i l.state)
