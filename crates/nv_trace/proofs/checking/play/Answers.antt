use Rattle.std.proofs.Common.{◌≡◌, ◌∙◌, ℕ, List, Some, inr, sym, ap, subst}
use Rattle.std.specs.Prelude.{is_some, Contains}
use Rattle.nv_calls.specs.Calls.{Entry, entry}
use Rattle.nv_calls.specs.Logs.{IsLawful, IsNew, child_of, live_after, live_next}
use Rattle.nv_calls.proofs.LogLaws.{live_more}
use Rattle.nv_trace.specs.Checks.{is_live}
use Rattle.nv_trace.specs.declared.fault.CheckFault.TheVariants.{Ended, Shape, Thread, Reply}
use Rattle.nv_trace.proofs.Sound.{lives_is}
use Rattle.nv_trace.proofs.Playing.{fault_ended, fault_shape, fault_thread, fault_reply, fault_none, new_child, later_is, came}
use Rattle.nv_trace.proofs.checking.play.Given.{Over}
use Rattle.nv_trace.proofs.checking.play.Goals as goal

-- what was made over the same goes on the same
still : (g : Over) (before now : _) → g.K.SyscallKernel.start now ≡ g.K.SyscallKernel.start before → g.K.SyscallKernel.known now ≡ g.K.SyscallKernel.known before
still g before now same =
    let law = g.met.K.Scripted g.world.𝓛 g.world.𝓜 g.world.𝓡 ((λ s x. x), (λ x. x), (λ x. x), λ x. x) in
    law.nothing_new now ∙ ap law.told same ∙ sym (law.nothing_new before)

pub returns-then-is_some-clause-fault : goal.returns-then-is_some-clause-fault
returns-then-is_some-clause-fault g c =
    let over = ap is_some (sym c.ended.ensures.is) ∙ sym c.is_some.ensures ∙ c.if-is_some.true in
    inr (fault_ended _ _ (entry c.args.event.now) over ∙ ap (λ n. Some (Ended n)) (sym c.requires.stamp))

pub returns-then-not-shaped-clause-fault : goal.returns-then-not-shaped-clause-fault
returns-then-not-shaped-clause-fault g c =
    let over = ap is_some (sym c.ended.ensures.is) ∙ sym c.is_some.ensures ∙ c.if-is_some.false in
    let shape = sym c.shaped.ensures ∙ c.if-not-shaped.true in
    inr (fault_shape _ _ (entry c.args.event.now) over shape ∙ ap (λ n. Some (Shape n)) (sym c.requires.stamp))

pub returns-then-not-lives-clause-fault : goal.returns-then-not-lives-clause-fault
returns-then-not-lives-clause-fault g c =
    let over = ap is_some (sym c.ended.ensures.is) ∙ sym c.is_some.ensures ∙ c.if-is_some.false in
    let shape = sym c.shaped.ensures ∙ c.if-not-shaped.false in
    let live = ap (λ l. is_live l c.args.event.now.call.tid) (sym (c.as_slice.ensures.value ∙ c.requires.live)) ∙ sym c.lives.ensures ∙ c.if-not-lives.true in
    inr (fault_thread _ _ (entry c.args.event.now) over shape live ∙ ap (λ n. Some (Thread n)) (sym c.requires.stamp))

pub serve-requires-clause-lives : goal.serve-requires-clause-lives
serve-requires-clause-lives g c =
    let live = ap (λ l. is_live l c.args.event.now.call.tid) (sym (c.as_slice.ensures.value ∙ c.requires.live)) ∙ sym c.lives.ensures ∙ c.if-not-lives.false in
    subst (λ (l : List Entry). Contains (live_after l) c.args.event.now.call.tid) (sym c.in_ok-reserve.ensures.log)
    (lives_is (live_after (g.K.SyscallKernel.log c.args.kernel.now)) c.args.event.now.call.tid live)

pub returns-then-not-has_got-clause-fault : goal.returns-then-not-has_got-clause-fault
returns-then-not-has_got-clause-fault g c =
    let over = ap is_some (sym c.ended.ensures.is) ∙ sym c.is_some.ensures ∙ c.if-is_some.false in
    let shape = sym c.shaped.ensures ∙ c.if-not-shaped.false in
    let live = ap (λ l. is_live l c.args.event.now.call.tid) (sym (c.as_slice.ensures.value ∙ c.requires.live)) ∙ sym c.lives.ensures ∙ c.if-not-lives.false in
    let later = later_is _ _ _ _ _ (entry c.args.event.now) c.in_ok-reserve.ensures.log (still g c.args.kernel.now c.reserve.new.self c.in_ok-reserve.ensures.start) c.serve.ensures.log in
    let other = sym (c.has_got.ensures _ _ (c.history.ensures.log ∙ later)) ∙ c.if-not-has_got.true in
    inr (fault_reply _ _ (entry c.args.event.now) over shape live other ∙ ap (λ n. Some (Reply n)) (sym c.requires.stamp))

pub note-requires : goal.note-requires
note-requires g c =
    let e = entry c.args.event.now in
    let later = later_is _ _ _ _ _ e c.in_ok-reserve.ensures.log (still g c.args.kernel.now c.reserve.new.self c.in_ok-reserve.ensures.start) c.serve.ensures.log in
    let same = sym (c.has_got.ensures _ _ (c.history.ensures.log ∙ later)) ∙ c.if-not-has_got.false in
    let all = came _ _ _ _ _ e c.in_ok-reserve.ensures.log (still g c.args.kernel.now c.reserve.new.self c.in_ok-reserve.ensures.start) c.serve.ensures.log c.requires.stamp same in
    subst (λ (l : List ℕ). IsNew l (child_of e)) (sym c.requires.live)
    (new_child (g.K.SyscallKernel.known c.args.kernel.now) _ e (subst IsLawful all c.history.ensures.lawful))

pub returns-clause-fault : goal.returns-clause-fault
returns-clause-fault g c =
    let e = entry c.args.event.now in
    let over = ap is_some (sym c.ended.ensures.is) ∙ sym c.is_some.ensures ∙ c.if-is_some.false in
    let shape = sym c.shaped.ensures ∙ c.if-not-shaped.false in
    let live = ap (λ l. is_live l c.args.event.now.call.tid) (sym (c.as_slice.ensures.value ∙ c.requires.live)) ∙ sym c.lives.ensures ∙ c.if-not-lives.false in
    let later = later_is _ _ _ _ _ e c.in_ok-reserve.ensures.log (still g c.args.kernel.now c.reserve.new.self c.in_ok-reserve.ensures.start) c.serve.ensures.log in
    let same = sym (c.has_got.ensures _ _ (c.history.ensures.log ∙ later)) ∙ c.if-not-has_got.false in
    fault_none _ _ e over shape live same

pub returns-clause-live : goal.returns-clause-live
returns-clause-live g c =
    let e = entry c.args.event.now in
    let later = later_is _ _ _ _ _ e c.in_ok-reserve.ensures.log (still g c.args.kernel.now c.reserve.new.self c.in_ok-reserve.ensures.start) c.serve.ensures.log in
    let same = sym (c.has_got.ensures _ _ (c.history.ensures.log ∙ later)) ∙ c.if-not-has_got.false in
    let all = came _ _ _ _ _ e c.in_ok-reserve.ensures.log (still g c.args.kernel.now c.reserve.new.self c.in_ok-reserve.ensures.start) c.serve.ensures.log c.requires.stamp same in
    c.note.ensures ∙ ap (λ (l : List ℕ). live_next l e) c.requires.live ∙ sym (live_more (g.K.SyscallKernel.log c.args.kernel.now) e) ∙ ap live_after (sym all)
