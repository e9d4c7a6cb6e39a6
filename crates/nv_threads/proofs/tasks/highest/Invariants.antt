use Rattle.std.proofs.Common.{◌≡◌, ◌≤◌, drop, length}
use Rattle.nv_threads.specs.Threads.{greatest}
use Rattle.nv_threads.specs.inner.Tasks.{task_numbers}
use Rattle.nv_threads.proofs.tasks.highest.Given as goal

abbrev pub invariant-loop-i : goal.invariant-loop-i
invariant-loop-i l = record { most : l.most ≡ greatest (task_numbers (drop l.i l.tasks)); inside : l.i ≤ length l.tasks }

abbrev pub decreases-loop-i : goal.decreases-loop-i
decreases-loop-i l = l.i
