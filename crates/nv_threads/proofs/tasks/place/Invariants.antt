use Rattle.std.proofs.Common.{◌≡◌, ◌+◌, drop}
use Rattle.nv_threads.specs.inner.Tasks.{task_place}
use Rattle.nv_threads.proofs.tasks.place.Given as goal

abbrev pub invariant-loop-i : goal.invariant-loop-i
invariant-loop-i l = task_place l.tasks l.tid ≡ l.i + task_place (drop l.i l.tasks) l.tid
