use Rattle.std.proofs.Common.{◌≡◌, drop}
use Rattle.nv_threads.specs.inner.Tasks.{doing_at}
use Rattle.nv_threads.proofs.tasks.doing_at.Given as goal

abbrev pub invariant-loop-task : goal.invariant-loop-task
invariant-loop-task l = doing_at l.tasks l.tid ≡ doing_at (drop l.task-index l.tasks) l.tid
