use Rattle.std.proofs.Common.{◌≡◌, length}
use Rattle.nv_memory.specs.inner.Rights.{Looked}
use Rattle.nv_memory.proofs.rights.look_at_each.Given as goal

abbrev pub invariant-loop-place : goal.invariant-loop-place
invariant-loop-place l = (length l.parts ≡ length l.fn.parts) × Looked l.regions l.start l.stop l.first l.place l.fn.parts l.parts
