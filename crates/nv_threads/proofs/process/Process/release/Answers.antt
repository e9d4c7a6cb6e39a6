use Rattle.std.proofs.Common.{◌∙◌, ◌-◌, ap, map}
use Rattle.nv_calls.specs.Calls.{request}
use Rattle.nv_guest.specs.Threads.{Threaded}
use Rattle.nv_threads.specs.Tasks.{threads_of}
use Rattle.nv_threads.specs.Threads.{Proc, all_unreserved}
use Rattle.nv_threads.proofs.Keeping.{guest_released}
use Rattle.nv_threads.proofs.process.Process.release.Goals as goal

pub invariant_of-self : goal.invariant_of-self
invariant_of-self c = guest_released _ _ _ _ _ _ _ _ c.self.invariant c.release.ensures

pub returns : goal.returns
returns c =
    let i = c.self.inside in
    ap (λ (g : Threaded). record { guest = g; tasks = threads_of i.tasks.items (map request i.calls.items); turn = i.turn; slice = i.slice; left = i.budget - i.count; budget = i.budget; renewals = i.renewals; earlier = i.earlier; status = i.status; polls = i.polls }) c.release.ensures
    ∙ ap (λ (p : Proc). all_unreserved p) c.self.view_is
