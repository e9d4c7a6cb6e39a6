use Rattle.std.proofs.Common.{◌≡◌, drop}
use Rattle.nv_threads.specs.inner.Tasks.{can_move_by}
use Rattle.nv_threads.proofs.tasks.can_move.Given as goal

abbrev pub invariant-loop-task : goal.invariant-loop-task
invariant-loop-task l = can_move_by l.want l.tasks ≡ can_move_by l.want (drop l.task-index l.tasks)
