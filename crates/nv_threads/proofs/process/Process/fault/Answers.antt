use Rattle.std.proofs.Common.{sym, subst}
use Rattle.std.specs.Prelude.{Contains}
use Rattle.nv_threads.specs.Threads.{Proc, task_tids}
use Rattle.nv_threads.proofs.Keeping.{guest_lives, lives_by}
use Rattle.nv_threads.proofs.process.Process.fault.Goals as goal

pub pc-requires : goal.pc-requires
pc-requires c = guest_lives _ _ _ _ _ _ _ _ c.self.invariant (subst (λ (p : Proc). Contains (task_tids p.tasks) p.turn) (sym c.self.view_is) (lives_by c.args.self.now.tasks c.args.self.now.turn c.requires))
