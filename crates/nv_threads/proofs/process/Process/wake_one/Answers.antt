use Rattle.std.proofs.Common.{◌∙◌, sym, ap, subst, refl, ◌-◌, List, map}
use Rattle.std.specs.Prelude.{Contains}
use Rattle.nv_calls.specs.Calls.{request}
use Rattle.nv_guest.specs.Threads as guests
use Rattle.nv_threads.specs.inner.Process.{IsSoundProcess}
use Rattle.nv_threads.specs.Tasks.{threads_of}
use Rattle.nv_threads.specs.Threads.{Proc, Task, Runs, task_tids, with_state, woken_one}
use Rattle.nv_threads.specs.declared.tasks.Doing.TheVariants as doing
use Rattle.nv_threads.proofs.Keeping.{tids_after, with_guest, with_task}
use Rattle.nv_threads.proofs.Writing.{lives_there, state_written}
use Rattle.nv_threads.proofs.process.Process.wake_one.Goals as goal

pub set_doing-requires : goal.set_doing-requires
set_doing-requires c = lives_there c.self.inside.tasks.items c.deref_mut.result.now (map request c.self.inside.calls.items) c.args.tid c.deref_mut.ensures.value
    (subst (λ (p : Proc). Contains (task_tids p.tasks) c.args.tid) (sym c.self.view_is) c.requires)

pub invariant_of-self : goal.invariant_of-self
invariant_of-self c =
    let is = state_written c.self.inside.tasks.items c.deref_mut.result.now c.set_doing.new.tasks (map request c.self.inside.calls.items) c.args.tid doing.Runs Runs (λ _. refl) c.deref_mut.ensures.value c.set_doing.ensures in
    subst (λ (ts : List Task). IsSoundProcess c.self.inside.count c.self.inside.budget c.self.inside.renewals c.self.inside.earlier ts (guests.tids c.answer.new.self.threads) c.self.inside.calls.items) (sym is)
    (with_task _ _ _ _ _ _ _ c.args.tid Runs (with_guest _ _ _ _ _ _ _ _ c.self.invariant (tids_after c.self.inside.guest c.answer.new.self c.args.tid _ c.answer.ensures)) tt)

pub returns : goal.returns
returns c =
    let i = c.self.inside in
    let is = state_written i.tasks.items c.deref_mut.result.now c.set_doing.new.tasks (map request i.calls.items) c.args.tid doing.Runs Runs (λ _. refl) c.deref_mut.ensures.value c.set_doing.ensures in
    ap (λ (ts : List Task). record { guest = c.answer.new.self; tasks = ts; turn = i.turn; slice = i.slice; left = i.budget - i.count; budget = i.budget; renewals = i.renewals; earlier = i.earlier; status = i.status; polls = i.polls }) is
    ∙ (ap (λ (g : guests.Threaded). record { guest = g; tasks = with_state (threads_of i.tasks.items (map request i.calls.items)) c.args.tid Runs; turn = i.turn; slice = i.slice; left = i.budget - i.count; budget = i.budget; renewals = i.renewals; earlier = i.earlier; status = i.status; polls = i.polls }) c.answer.ensures
    ∙ ap (λ (p : Proc). woken_one p c.args.tid) c.self.view_is)
