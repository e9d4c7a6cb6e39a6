use denote.Exit.{no}
use denote.Param.Send.{param_send, arg_send}
use Rattle.std.proofs.Common.{◌≡◌, ◌∙◌, ℕ, zero, suc, ◌+◌, ◌<◌, ◌≤◌, List, [], ◌∷◌, ◌++◌, length, map, take, get_or, Some, sym, ap, subst, arith}
use Rattle.std.specs.Prelude.{slice_get, Contains}
use Rattle.nv_calls.specs.declared.calls.Event.{Event}
use Rattle.nv_calls.specs.Calls.{Entry, entry}
use Rattle.nv_calls.specs.Logs.{Start, served, live_after, IsLegal, IsLawful}
use Rattle.nv_calls.proofs.LogLaws.{at_prefix}
use Rattle.nv_arriving.specs.Scripted.{start_from}
use Rattle.nv_arriving.proofs.Sending.{listed_send}
use Rattle.nv_script.specs.Views.{setup_of}
use Rattle.nv_trace.proofs.Playing.{item_at, take_next}
use Rattle.nv_inspect.proofs.Prefixes.{map_take}
use Rattle.nv_inspect.proofs.kernels.kernel_after.Goals as goal

pub make-requires-send-A : goal.make-requires-send-A
make-requires-send-A c κs = param_send 0 _ (arg_send _ no _ listed_send)

-- the event in a place of the history is the log's
at_log : (h : List Event) (log : List Entry) (seen i : ℕ) (x : Event) → map entry h ≡ log → i < length (take seen h) → x ≡ get_or (take seen h) i x → slice_get log i ≡ Some (entry x)
at_log h log seen i x is less at =
    let there = item_at (take seen h) i x less at in
    let taken : slice_get (take seen log) i ≡ Some (entry x) = ap (λ z. slice_get z i) (sym (map_take seen h ∙ ap (take seen) is)) ∙ there in
    (at_prefix seen log i (entry x) taken).0

-- how long the log is before a place
few_before : (log before : List Entry) (i : ℕ) (e : Entry) → IsLawful log → before ≡ take i log → slice_get log i ≡ Some e → length before < 500000000
few_before log before i e ok is at = let m = ok i e at in let n = short i log in omega (arith, m.few, n, ap length is)
  where
    short : (k : ℕ) (xs : List Entry) → length (take k xs) ≤ k
    short zero xs = omega arith
    short (suc k) [] = omega arith
    short (suc k) (x ∷ xs) = let m = short k xs in omega arith

one_more : (s now : Start) (log before later : List Entry) (i : ℕ) (e : Entry) → IsLegal s log → slice_get log i ≡ Some e → now ≡ s → before ≡ take i log → later ≡ before ++ served now before e.call ∷ []
    → later ≡ take (i + 1) log
one_more s now log before later i e legal at start is one =
    one ∙ (λ k. is k ++ served (start k) (is k) e.call ∷ []) ∙ ap (λ z. take i log ++ z ∷ []) (sym (legal i e at)) ∙ sym (take_next log i e at)

pub reserve-requires : goal.reserve-requires
reserve-requires c =
    let at = at_log c.history.result.now c.args.kernel.now.log c.args.seen c.loop-event.event-index c.event-item.result c.history.ensures.log c.loop-event-test.true c.event-item.is in
    record { shaped = c.requires.sound.shaped c.loop-event.event-index (entry c.event-item.result) at }

pub serve-requires-clause-shaped : goal.serve-requires-clause-shaped
serve-requires-clause-shaped c =
    let at = at_log c.history.result.now c.args.kernel.now.log c.args.seen c.loop-event.event-index c.event-item.result c.history.ensures.log c.loop-event-test.true c.event-item.is in
    c.requires.sound.shaped c.loop-event.event-index (entry c.event-item.result) at

pub serve-requires-clause-lives : goal.serve-requires-clause-lives
serve-requires-clause-lives c =
    let at = at_log c.history.result.now c.args.kernel.now.log c.args.seen c.loop-event.event-index c.event-item.result c.history.ensures.log c.loop-event-test.true c.event-item.is in
    let is = c.reserve.ensures.log ∙ c.loop-event.invariant.0 in
    subst (λ (z : List Entry). Contains (live_after z) c.event-item.result.call.tid) (sym is) (c.requires.sound.live c.loop-event.event-index (entry c.event-item.result) at)

pub serve-requires-clause-few : goal.serve-requires-clause-few
serve-requires-clause-few c =
    let at = at_log c.history.result.now c.args.kernel.now.log c.args.seen c.loop-event.event-index c.event-item.result c.history.ensures.log c.loop-event-test.true c.event-item.is in
    few_before c.args.kernel.now.log c.reserve.new.self.log c.loop-event.event-index (entry c.event-item.result) c.history.ensures.lawful (c.reserve.ensures.log ∙ c.loop-event.invariant.0) at

pub loop-event-preserved : goal.loop-event-preserved
loop-event-preserved c =
    let at = at_log c.history.result.now c.args.kernel.now.log c.args.seen c.loop-event.event-index c.event-item.result c.history.ensures.log c.loop-event-test.true c.event-item.is in
    let setup = c.reserve.ensures.start ∙ c.loop-event.invariant.1 in (
      one_more (start_from (setup_of c.args.script.now)) (start_from c.reserve.new.self.setup) c.args.kernel.now.log c.reserve.new.self.log c.serve.new.self.log
          c.loop-event.event-index (entry c.event-item.result) c.requires.sound.legal at (ap start_from setup) (c.reserve.ensures.log ∙ c.loop-event.invariant.0) c.serve.ensures.log,
      c.serve.ensures.start ∙ setup,
    )
