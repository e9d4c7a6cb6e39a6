use Rattle.std.proofs.Common.{◌≡◌, drop}
use Rattle.nv_sockets.specs.Sockets.{first_at}
use Rattle.nv_sockets.proofs.places.first_at.Given as goal

abbrev pub invariant-loop-one : goal.invariant-loop-one
invariant-loop-one l = first_at l.port (drop l.one-index l.waiting) ≡ first_at l.port l.waiting
