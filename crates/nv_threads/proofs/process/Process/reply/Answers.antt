use Rattle.std.proofs.Common.{sym, subst}
use Rattle.std.specs.Prelude.{Contains}
use Rattle.nv_threads.specs.Threads.{Proc, task_tids}
use Rattle.nv_threads.proofs.Keeping.{guest_lives, running_lives, tids_after, with_guest}
use Rattle.nv_threads.proofs.process.Process.reply.Goals as goal

pub answer-requires : goal.answer-requires
answer-requires c = guest_lives _ _ _ _ _ _ _ _ c.self.invariant (subst (λ (p : Proc). Contains (task_tids p.tasks) p.turn) (sym c.self.view_is) (running_lives c.args.self.now.tasks c.args.self.now.turn c.requires))

pub invariant_of-self : goal.invariant_of-self
invariant_of-self c = with_guest _ _ _ _ _ _ _ _ c.self.invariant (tids_after c.self.inside.guest c.answer.new.self c.self.inside.turn _ c.answer.ensures)
