use Rattle.std.proofs.Common.{◌∙◌, ◌-◌, sym, ap, map}
use Rattle.nv_calls.specs.Calls.{request}
use Rattle.nv_guest.specs.Threads.{Threaded, released}
use Rattle.nv_threads.specs.Threads.{Proc, task_tids, next_tid, turn_length}
use Rattle.nv_threads.specs.Tasks.{threads_of}
use Rattle.nv_threads.specs.inner.Tasks.{task_numbers}
use Rattle.nv_threads.proofs.Keeping.{guest_released}
use Rattle.nv_threads.proofs.Tabling.{tids_of}
use Rattle.nv_threads.proofs.process.Process.pass.Goals as goal

pub invariant_of-self : goal.invariant_of-self
invariant_of-self c = guest_released _ _ _ _ _ _ _ _ c.self.invariant c.release.ensures

pub returns : goal.returns
unfolding turn_length
returns c =
    let i = c.self.inside in
    let cs = map request i.calls.items in
    let next = c.next_tid-self-inside.ensures
    ∙ (ap (λ ts. next_tid i.turn (task_numbers ts)) c.deref.ensures.0
    ∙ (ap (next_tid i.turn) (sym (tids_of i.tasks.items cs)) ∙ ap (λ (p : Proc). next_tid p.turn (task_tids p.tasks)) c.self.view_is)) in
    ap (λ (g : Threaded). record { guest = g; tasks = threads_of i.tasks.items cs; turn = c.next_tid-self-inside.result; slice = 1000; left = i.budget - i.count; budget = i.budget; renewals = i.renewals; earlier = i.earlier; status = i.status; polls = i.polls }) c.release.ensures
    ∙ (ap (λ (p : Proc). record p { guest = released p.guest; turn = c.next_tid-self-inside.result; slice = 1000 }) c.self.view_is
    ∙ ap (λ n. record c.args.self.now { guest = released c.args.self.now.guest; turn = n; slice = 1000 }) next)
