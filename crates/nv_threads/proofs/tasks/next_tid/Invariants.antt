use Rattle.std.proofs.Common.{◌≡◌, ◌≤◌, drop, length}
use Rattle.nv_threads.specs.Threads.{least, least_above}
use Rattle.nv_threads.specs.inner.Tasks.{task_numbers}
use Rattle.nv_threads.proofs.tasks.next_tid.Given as goal

abbrev pub invariant-loop-i : goal.invariant-loop-i
invariant-loop-i l = record {
  least : l.least ≡ least (task_numbers (drop l.i l.tasks));
  above : l.above ≡ least_above l.turn (task_numbers (drop l.i l.tasks));
  inside : l.i ≤ length l.tasks;
}

abbrev pub decreases-loop-i : goal.decreases-loop-i
decreases-loop-i l = l.i
