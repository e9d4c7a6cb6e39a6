use Rattle.std.proofs.Common.{◌≡◌}
use Rattle.nv_threads.specs.Threads.{task_tids, advanced}
use Rattle.nv_threads.specs.Going.{height}
use Rattle.nv_threads.proofs.process.Process.advance.Given as goal

abbrev pub invariant-loop-came : goal.invariant-loop-came
invariant-loop-came l = (advanced l.want l.self ≡ advanced l.want l.initial.self) × (task_tids l.self.tasks ≡ task_tids l.initial.self.tasks)

abbrev pub decreases-loop-came : goal.decreases-loop-came
decreases-loop-came l = height l.want l.self
