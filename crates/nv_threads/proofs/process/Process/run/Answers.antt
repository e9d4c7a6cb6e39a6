use Rattle.std.proofs.Common.{sym, subst, arith}
use Rattle.std.specs.Prelude.{Contains}
use Rattle.nv_threads.specs.Threads.{Proc, task_tids}
use Rattle.nv_threads.proofs.Bursts.{on_runs}
use Rattle.nv_threads.proofs.Keeping.{guest_lives, running_lives, tids_after, with_guest, with_count}
use Rattle.nv_threads.proofs.process.Process.run.Goals as goal

pub run-count-requires : goal.run-count-requires
run-count-requires c = guest_lives _ _ _ _ _ _ _ _ c.self.invariant
    (subst (λ (p : Proc). Contains (task_tids p.tasks) p.turn) (sym c.self.view_is) (running_lives c.args.self.now.tasks c.args.self.now.turn (on_runs c.args.self.now c.requires)))

pub invariant_of-self : goal.invariant_of-self
invariant_of-self c =
    with_count _ _ _ _ _ _ _ _ (with_guest _ _ _ _ _ _ _ _ c.self.invariant (tids_after c.self.inside.guest c.run-count.new.self c.self.inside.turn _ c.run-count.ensures.after))
    (omega (arith, c.run-count.ensures.few, c.min-most.ensures, c.self.invariant.within))

pub invariant_of-self-in-Call : goal.invariant_of-self-in-Call
invariant_of-self-in-Call c =
    with_count _ _ _ _ _ _ _ _ (with_guest _ _ _ _ _ _ _ _ c.self.invariant (tids_after c.self.inside.guest c.run-count.new.self c.self.inside.turn _ c.run-count.ensures.after))
    (omega (arith, c.run-count.ensures.few, c.min-most.ensures, c.self.invariant.within))

pub invariant_of-self-in-Fault : goal.invariant_of-self-in-Fault
invariant_of-self-in-Fault c =
    with_count _ _ _ _ _ _ _ _ (with_guest _ _ _ _ _ _ _ _ c.self.invariant (tids_after c.self.inside.guest c.run-count.new.self c.self.inside.turn _ c.run-count.ensures.after))
    (omega (arith, c.run-count.ensures.few, c.min-most.ensures, c.self.invariant.within))
