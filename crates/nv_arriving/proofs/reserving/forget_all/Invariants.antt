use Rattle.std.proofs.Common.{◌≡◌}
use Rattle.nv_arriving.proofs.reserving.forget_all.Given as goal

abbrev pub invariant-loop-arrival : goal.invariant-loop-arrival
invariant-loop-arrival l = l.sockets ≡ record l.fn.sockets { promised = l.sockets.promised }
