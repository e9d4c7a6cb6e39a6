use Rattle.std.proofs.Common.{◌≡◌, drop}
use Rattle.nv_threads.specs.inner.Tasks.{any_asks_by}
use Rattle.nv_threads.proofs.tasks.any_asks.Given as goal

abbrev pub invariant-loop-task : goal.invariant-loop-task
invariant-loop-task l = any_asks_by l.tasks ≡ any_asks_by (drop l.task-index l.tasks)
