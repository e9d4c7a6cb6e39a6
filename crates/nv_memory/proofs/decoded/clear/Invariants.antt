use Rattle.nv_memory.specs.inner.Decoded.{ArePlaces}
use Rattle.nv_memory.proofs.decoded.clear.Given as goal

abbrev pub invariant-loop-place : goal.invariant-loop-place
invariant-loop-place l = ArePlaces l.first l.place l.fn.insns l.insns
