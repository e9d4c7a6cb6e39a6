use Rattle.std.proofs.Common.{◌∙◌, sym, ap, subst, refl, ◌-◌, List, map}
use Rattle.std.specs.Prelude.{Contains}
use Rattle.nv_calls.specs.Calls.{request}
use Rattle.nv_guest.specs.Threads as guests
use Rattle.nv_threads.specs.inner.Process.{IsSoundProcess}
use Rattle.nv_threads.specs.Threads.{Proc, Task, Waits, task_tids, with_state, turn_passed}
use Rattle.nv_threads.specs.declared.tasks.Doing.TheVariants as doing
use Rattle.nv_threads.proofs.Keeping.{running_lives, with_task}
use Rattle.nv_threads.proofs.Writing.{lives_there, state_written}
use Rattle.nv_threads.proofs.process.Process.wait.Goals as goal

pub set_doing-requires : goal.set_doing-requires
set_doing-requires c = lives_there c.self.inside.tasks.items c.deref_mut.result.now (map request c.self.inside.calls.items) c.self.inside.turn c.deref_mut.ensures.value
    (subst (λ (p : Proc). Contains (task_tids p.tasks) p.turn) (sym c.self.view_is) (running_lives c.args.self.now.tasks c.args.self.now.turn c.requires))

pub invariant_of-self : goal.invariant_of-self
invariant_of-self c =
    let is = state_written c.self.inside.tasks.items c.deref_mut.result.now c.set_doing.new.tasks (map request c.self.inside.calls.items) c.self.inside.turn (doing.Waits c.args.address) (Waits c.args.address) (λ _. refl) c.deref_mut.ensures.value c.set_doing.ensures in
    subst (λ (ts : List Task). IsSoundProcess c.self.inside.count c.self.inside.budget c.self.inside.renewals c.self.inside.earlier ts (guests.tids c.self.inside.guest.threads) c.self.inside.calls.items) (sym is)
    (with_task _ _ _ _ _ _ _ c.self.inside.turn (Waits c.args.address) c.self.invariant tt)

pub returns : goal.returns
returns c =
    let i = c.self.inside in
    let is = state_written i.tasks.items c.deref_mut.result.now c.set_doing.new.tasks (map request i.calls.items) i.turn (doing.Waits c.args.address) (Waits c.args.address) (λ _. refl) c.deref_mut.ensures.value c.set_doing.ensures in
    c.pass.ensures ∙ ap turn_passed
    (ap (λ (ts : List Task). record { guest = i.guest; tasks = ts; turn = i.turn; slice = i.slice; left = i.budget - i.count; budget = i.budget; renewals = i.renewals; earlier = i.earlier; status = i.status; polls = i.polls }) is
    ∙ ap (λ (p : Proc). record p { tasks = with_state p.tasks p.turn (Waits c.args.address) }) c.self.view_is)
