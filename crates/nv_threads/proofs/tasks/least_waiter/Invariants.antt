use Rattle.std.proofs.Common.{◌≡◌, ◌≤◌, drop, length}
use Rattle.nv_threads.specs.inner.Tasks.{waiter_by}
use Rattle.nv_threads.proofs.tasks.least_waiter.Given as goal

abbrev pub invariant-loop-i : goal.invariant-loop-i
invariant-loop-i l = record {
  least : l.least ≡ waiter_by l.address (drop l.i l.tasks);
  inside : l.i ≤ length l.tasks;
}

abbrev pub decreases-loop-i : goal.decreases-loop-i
decreases-loop-i l = l.i
