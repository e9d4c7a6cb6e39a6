use Rattle.std.proofs.Common.{◌≡◌, ◌∙◌, sym, ap, subst, true, map}
use Rattle.std.specs.Prelude.{Contains, is_some}
use Rattle.nv_calls.specs.Calls.{request}
use Rattle.nv_guest.specs.Threads as guests
use Rattle.nv_threads.specs.Threads.{Proc, state_at}
use Rattle.nv_threads.specs.Tasks.{threads_of}
use Rattle.nv_threads.specs.inner.Tasks.{doing_at}
use Rattle.nv_threads.proofs.Keeping.{lives_by, guest_lives}
use Rattle.nv_threads.proofs.Tabling.{live_of}
use Rattle.nv_threads.proofs.process.Process.lives.Goals as goal

pub returns-clause-is : goal.returns-clause-is
returns-clause-is c =
    c.lives.ensures ∙ (ap (λ ts. is_some (doing_at ts c.args.tid)) c.deref.ensures.0
    ∙ (sym (live_of c.self.inside.tasks.items (map request c.self.inside.calls.items) c.args.tid) ∙ ap (λ (p : Proc). is_some (state_at p.tasks c.args.tid)) c.self.view_is))

pub returns-clause-guest : goal.returns-clause-guest
returns-clause-guest c h =
    let i = c.self.inside in
    let cs = map request i.calls.items in
    let here : is_some (state_at (threads_of i.tasks.items cs) c.args.tid) ≡ true =
    live_of i.tasks.items cs c.args.tid ∙ ap (λ ts. is_some (doing_at ts c.args.tid)) (sym c.deref.ensures.0) ∙ sym c.lives.ensures ∙ h in
    subst (λ (p : Proc). Contains (guests.tids p.guest.threads) c.args.tid) c.self.view_is
    (guest_lives i.count i.budget i.renewals i.earlier (threads_of i.tasks.items cs) (guests.tids i.guest.threads) i.calls.items c.args.tid c.self.invariant (lives_by (threads_of i.tasks.items cs) c.args.tid here))
