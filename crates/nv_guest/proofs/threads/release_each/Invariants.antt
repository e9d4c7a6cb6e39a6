use Rattle.std.proofs.Common.{◌≡◌}
use Rattle.nv_guest.proofs.Releasing.{unreserved_first}
use Rattle.nv_guest.proofs.threads.release_each.Given as goal

abbrev pub invariant-loop-thread : goal.invariant-loop-thread
invariant-loop-thread l = l.threads ≡ unreserved_first l.thread-index l.initial.threads
