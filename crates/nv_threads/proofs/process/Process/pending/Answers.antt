use Rattle.std.proofs.Common.{◌≡◌, ◌∙◌, ◌≤◌, sym, ap, subst, true, ℕ, List, length, map, get_or, arith}
use Rattle.std.specs.Prelude.{Contains}
use Rattle.std.proofs.lemmas.List.{length-map}
use Rattle.nv_calls.specs.declared.calls.Call.{Call}
use Rattle.nv_calls.specs.Calls.{request, Request}
use Rattle.nv_calls.specs.Shapes.{IsShaped}
use Rattle.nv_threads.specs.Tasks.{threads_of}
use Rattle.nv_threads.specs.inner.Tasks.{task_place}
use Rattle.nv_threads.specs.Threads.{Proc, task_tids, state_at, is_asking, call_in, threads}
use Rattle.nv_threads.specs.declared.tasks.Task.{Task}
use Rattle.nv_threads.proofs.Keeping.{asking_lives}
use Rattle.nv_threads.proofs.Leaving.{asked_call, map_at, own_call}
use Rattle.nv_threads.proofs.Writing.{lives_there}
use Rattle.nv_threads.proofs.process.Process.pending.Goals as goal

with_tid : (q : Request) (t : ℕ) → q.tid ≡ t → q ≡ record q { tid = t }
with_tid q t e = λ j. record q { tid = e j }

pub place-requires : goal.place-requires
unfolding threads
place-requires c = lives_there c.self.inside.tasks.items c.deref.result.now (map request c.self.inside.calls.items) c.args.tid c.deref.ensures.0
    (subst (λ (p : Proc). Contains (task_tids p.tasks) c.args.tid) (sym c.self.view_is) (asking_lives c.args.self.now.tasks c.args.tid c.requires))

pub returns-clause-call : goal.returns-clause-call
unfolding threads
returns-clause-call c =
    let i = c.self.inside in
    let cs = map request i.calls.items in
    let asks : is_asking (state_at (threads_of i.tasks.items cs) c.args.tid) ≡ true = subst (λ (p : Proc). is_asking (state_at p.tasks c.args.tid) ≡ true) (sym c.self.view_is) c.requires in
    let at : c.place.result ≡ task_place i.tasks.items c.args.tid = c.place.ensures.place ∙ ap (λ (ts : List Task). task_place ts c.args.tid) c.deref.ensures.0 in
    let long : length i.tasks.items ≤ length cs = (let n = length-map i.calls.items request in omega (arith, ap length c.deref.ensures.0, c.deref.ensures.1, c.self.invariant.eight, n)) in
    let d : Call = c.index.result.now in
    let call : call_in (state_at (threads_of i.tasks.items cs) c.args.tid) ≡ request d
    = asked_call i.tasks.items cs c.args.tid (request d) long asks
    ∙ (ap (λ k. get_or cs k (request d)) (sym at)
    ∙ (map_at i.calls.items c.place.result d ∙ ap request (sym c.index.ensures))) in
    let own = own_call (threads_of i.tasks.items cs) c.args.tid c.self.invariant.own asks in
    sym call
    ∙ (with_tid (call_in (state_at (threads_of i.tasks.items cs) c.args.tid)) c.args.tid own.0
    ∙ ap (λ (p : Proc). record (call_in (state_at p.tasks c.args.tid)) { tid = c.args.tid }) c.self.view_is)

pub returns-clause-shaped : goal.returns-clause-shaped
unfolding threads
returns-clause-shaped c =
    let i = c.self.inside in
    let cs = map request i.calls.items in
    let asks : is_asking (state_at (threads_of i.tasks.items cs) c.args.tid) ≡ true = subst (λ (p : Proc). is_asking (state_at p.tasks c.args.tid) ≡ true) (sym c.self.view_is) c.requires in
    let at : c.place.result ≡ task_place i.tasks.items c.args.tid = c.place.ensures.place ∙ ap (λ (ts : List Task). task_place ts c.args.tid) c.deref.ensures.0 in
    let long : length i.tasks.items ≤ length cs = (let n = length-map i.calls.items request in omega (arith, ap length c.deref.ensures.0, c.deref.ensures.1, c.self.invariant.eight, n)) in
    let d : Call = c.index.result.now in
    let call : call_in (state_at (threads_of i.tasks.items cs) c.args.tid) ≡ request d
    = asked_call i.tasks.items cs c.args.tid (request d) long asks
    ∙ (ap (λ k. get_or cs k (request d)) (sym at)
    ∙ (map_at i.calls.items c.place.result d ∙ ap request (sym c.index.ensures))) in
    let own = own_call (threads_of i.tasks.items cs) c.args.tid c.self.invariant.own asks in
    subst IsShaped call own.1
