use Rattle.std.proofs.Common.{◌≡◌, ◌∙◌, ◌+◌, sym, ap, subst, true, ℕ, suc, List, [], to_z, w32, arith}
use Rattle.std.specs.Prelude.{Contains}
use Rattle.std.proofs.lemmas.Int.{to_z_pos}
use Rattle.nv_calls.specs.Calls.{Request, Response}
use Rattle.nv_threads.specs.Behaviours.{event_answered}
use Rattle.nv_threads.specs.Threads.{Proc, threads}
use Rattle.nv_threads.proofs.ThreadLaws.{thread_laws, threads_on, threads_asked, threads_live}
use Rattle.nv_threads.specs.declared.turns.Want.TheVariants.{Any}
use Rattle.nv_rows.specs.Firsts.{firsts}
use Rattle.nv_rows.proofs.Starting.{first_in, new_is, next_is}
use Rattle.nv_rows.proofs.threads.start.Goals as goal

pub advance-requires : goal.advance-requires
advance-requires c = threads_on c.loop-i.process 100 (subst (λ (ts : List ℕ). Contains ts 100) (sym c.loop-i.invariant) (first_in c.loop-i.i c.loop-i.auto.i))

pub pending-requires : goal.pending-requires
pending-requires c = subst (λ (p : Proc). threads.pending p c.in-Asked.tid ≡ true) (sym c.in-Asked.ensures.after) (threads_asked c.loop-i.process Any c.in-Asked.tid (sym c.in-Asked.ensures.came))

pub answer-requires-clause-pending : goal.answer-requires-clause-pending
answer-requires-clause-pending c = subst (λ (p : Proc). threads.pending p c.in-Asked.tid ≡ true) (sym c.in-Asked.ensures.after) (threads_asked c.loop-i.process Any c.in-Asked.tid (sym c.in-Asked.ensures.came))

pub answer-requires-clause-new : goal.answer-requires-clause-new
answer-requires-clause-new c =
    let live = ap threads.live c.in-Asked.ensures.after ∙ (threads_live c.loop-i.process Any ∙ c.loop-i.invariant) in
    let nr = ap (λ (q : Request). q.nr) (sym c.pending.ensures.call) ∙ c.if-pending-ne-CLONE.false in
    new_is (threads.live c.advance.new.self) c.loop-i.i (threads.call c.advance.new.self c.in-Asked.tid).nr _ live c.loop-i-test.true nr (to_z_pos w32 (100 + c.loop-i.i) (omega (arith, c.loop-i-test.true)))

pub loop-i-preserved : goal.loop-i-preserved
loop-i-preserved c =
    let p : Proc = c.advance.new.self in
    let t = c.in-Asked.tid in
    let live = ap threads.live c.in-Asked.ensures.after ∙ (threads_live c.loop-i.process Any ∙ c.loop-i.invariant) in
    let nr = ap (λ (q : Request). q.nr) (sym c.pending.ensures.call) ∙ c.if-pending-ne-CLONE.false in
    let asks = subst (λ (q : Proc). threads.pending q t ≡ true) (sym c.in-Asked.ensures.after) (threads_asked c.loop-i.process Any t (sym c.in-Asked.ensures.came)) in
    let r : Response = record { ret = to_z w32 (100 + c.loop-i.i); payload = [] } in
    ap threads.live c.answer.ensures
    ∙ (thread_laws.live_answer p t 0 r asks
    ∙ (next_is (threads.live p) (event_answered threads p t r 0) c.loop-i.i live nr (to_z_pos w32 (100 + c.loop-i.i) (omega (arith, c.loop-i-test.true)))
    ∙ ap firsts (let s : suc c.loop-i.i ≡ c.loop-i.i + 1 = omega arith in s)))
