use Rattle.std.proofs.Common.{◌≡◌, ◌+◌, drop}
use Rattle.nv_guest.specs.Threads.{thread_place}
use Rattle.nv_guest.proofs.threads.place.Given as goal

abbrev pub invariant-loop-i : goal.invariant-loop-i
invariant-loop-i l = thread_place l.threads l.tid ≡ l.i + thread_place (drop l.i l.threads) l.tid
