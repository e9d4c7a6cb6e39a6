use Rattle.std.proofs.Common.{◌≡◌, ◌≤◌, length, filter, take, ◌==◌, not}
use Rattle.nv_trace.proofs.live.others.Given as goal

abbrev pub invariant-loop-i : goal.invariant-loop-i
invariant-loop-i l = (l.rest.items ≡ filter (λ t. not (t == l.tid)) (take l.i l.live)) × (length l.rest.items ≤ l.i)
