use Rattle.std.proofs.Common.{◌≡◌, ◌∙◌, ◌≤◌, sym, ap, subst, true, ℕ, ℤ, List, length, map, get_or, to_z, of_z, w32, arith}
use Rattle.std.specs.Prelude.{Contains}
use Rattle.std.proofs.lemmas.List.{length-map}
use Rattle.std.proofs.lemmas.Int.{to_z-of_z}
use Rattle.nv_calls.specs.declared.calls.Call.{Call}
use Rattle.nv_calls.specs.Calls.{request, Request, Response, status_of}
use Rattle.nv_calls.specs.Logs.{made, IsNew}
use Rattle.nv_threads.specs.Tasks.{threads_of}
use Rattle.nv_threads.specs.inner.Tasks.{task_place}
use Rattle.nv_threads.specs.Threads.{Proc, task_tids, state_at, is_asking, call_in, answered_as, threads}
use Rattle.nv_threads.specs.declared.tasks.Task.{Task}
use Rattle.nv_threads.proofs.Keeping.{asking_lives}
use Rattle.nv_threads.proofs.Leaving.{asked_call, map_at}
use Rattle.nv_threads.proofs.Writing.{lives_there}
use Rattle.nv_threads.proofs.process.Process.give.Goals as goal

pub place-place-requires : goal.place-place-requires
unfolding threads
place-place-requires c = lives_there c.self.inside.tasks.items c.deref.result.now (map request c.self.inside.calls.items) c.args.tid c.deref.ensures.0
    (subst (λ (p : Proc). Contains (task_tids p.tasks) c.args.tid) (sym c.self.view_is) (asking_lives c.args.self.now.tasks c.args.tid c.requires.pending))

pub answer_as-requires-clause-lives : goal.answer_as-requires-clause-lives
unfolding threads
answer_as-requires-clause-lives c = asking_lives c.args.self.now.tasks c.args.tid c.requires.pending

pub answer_as-requires-clause-new : goal.answer_as-requires-clause-new
unfolding threads
answer_as-requires-clause-new c =
    let i = c.self.inside in
    let cs = map request i.calls.items in
    let asks : is_asking (state_at (threads_of i.tasks.items cs) c.args.tid) ≡ true = subst (λ (p : Proc). is_asking (state_at p.tasks c.args.tid) ≡ true) (sym c.self.view_is) c.requires.pending in
    let at : c.place-place.result ≡ task_place i.tasks.items c.args.tid = c.place-place.ensures.place ∙ ap (λ (ts : List Task). task_place ts c.args.tid) c.deref.ensures.0 in
    let long : length i.tasks.items ≤ length cs = (let n = length-map i.calls.items request in omega (arith, ap length c.deref.ensures.0, c.deref.ensures.1, c.self.invariant.eight, n)) in
    let d : Call = c.index.result.now in
    let call : call_in (state_at c.args.self.now.tasks c.args.tid) ≡ request d
    = ap (λ (p : Proc). call_in (state_at p.tasks c.args.tid)) (sym c.self.view_is)
    ∙ (asked_call i.tasks.items cs c.args.tid (request d) long asks
    ∙ (ap (λ k. get_or cs k (request d)) (sym at)
    ∙ (map_at i.calls.items c.place-place.result d ∙ ap request (sym c.index.ensures)))) in
    subst (λ (n : ℕ). IsNew (task_tids c.args.self.now.tasks) (made n (to_z w32 (of_z w32 c.args.ret)))) (ap (λ (q : Request). q.nr) call)
    (subst (λ (r : ℤ). IsNew (task_tids c.args.self.now.tasks) (made (call_in (state_at c.args.self.now.tasks c.args.tid)).nr r)) (sym (to_z-of_z w32 c.args.ret c.ranges.ret)) c.requires.new)

pub returns : goal.returns
unfolding threads
returns c =
    let i = c.self.inside in
    let cs = map request i.calls.items in
    let asks : is_asking (state_at (threads_of i.tasks.items cs) c.args.tid) ≡ true = subst (λ (p : Proc). is_asking (state_at p.tasks c.args.tid) ≡ true) (sym c.self.view_is) c.requires.pending in
    let at : c.place-place.result ≡ task_place i.tasks.items c.args.tid = c.place-place.ensures.place ∙ ap (λ (ts : List Task). task_place ts c.args.tid) c.deref.ensures.0 in
    let long : length i.tasks.items ≤ length cs = (let n = length-map i.calls.items request in omega (arith, ap length c.deref.ensures.0, c.deref.ensures.1, c.self.invariant.eight, n)) in
    let d : Call = c.index.result.now in
    let first : call_in (state_at c.args.self.now.tasks c.args.tid) ≡ request d
    = ap (λ (p : Proc). call_in (state_at p.tasks c.args.tid)) (sym c.self.view_is)
    ∙ (asked_call i.tasks.items cs c.args.tid (request d) long asks
    ∙ (ap (λ k. get_or cs k (request d)) (sym at)
    ∙ (map_at i.calls.items c.place-place.result d ∙ ap request (sym c.index.ensures)))) in
    let e : Call = c.index-2.result.now in
    let second : call_in (state_at c.args.self.now.tasks c.args.tid) ≡ request e
    = ap (λ (p : Proc). call_in (state_at p.tasks c.args.tid)) (sym c.self.view_is)
    ∙ (asked_call i.tasks.items cs c.args.tid (request e) long asks
    ∙ (ap (λ k. get_or cs k (request e)) (sym at)
    ∙ (map_at i.calls.items c.place-place.result e ∙ ap request (sym c.index-2.ensures)))) in
    let p : Proc = c.args.self.now in
    let all : Response = record { ret = c.args.ret; payload = c.args.payload.now } in
    c.answer_as.ensures
    ∙ (ap (λ (n : ℕ). answered_as p c.args.tid d.nr n (record { ret = to_z w32 (of_z w32 c.args.ret); payload = c.args.payload.now })) c.status-status.ensures
    ∙ ap (λ (z : ℤ). answered_as p c.args.tid d.nr (status_of (request e)) (record { ret = z; payload = c.args.payload.now })) (to_z-of_z w32 c.args.ret c.ranges.ret)
    ∙ (ap (λ (n : ℕ). answered_as p c.args.tid n (status_of (request e)) all) (ap (λ (q : Request). q.nr) (sym first))
    ∙ ap (λ (n : ℕ). answered_as p c.args.tid (call_in (state_at p.tasks c.args.tid)).nr n all) (ap status_of (sym second))))
