use Rattle.std.proofs.Common.{◌≡◌, ◌∙◌, ◌<◌, ◌≤◌, length, map, Some, None, refl, sym, subst, arith}
use Rattle.std.specs.Prelude.{◌⊎◌}
use Rattle.std.proofs.lemmas.List.{length-map}
use Rattle.nv_calls.specs.Calls.{entry}
use Rattle.nv_calls.specs.Logs.{Start}
use Rattle.nv_trace.specs.declared.fault.CheckFault.TheVariants.{Memory}
use Rattle.nv_trace.specs.Checks.{entry_fault, left_at}
use Rattle.nv_trace.proofs.Playing.{item_at, played_none, length_played, stops_for, played_more, all_served, all_sound}
use Rattle.nv_trace.proofs.checking.check.Goals as goal

pub loop-event-init : goal.loop-event-init
loop-event-init g c = record { start_is = refl; played = played_none _ _ _ _ c.requires.empty c.first_thread-live.ensures }

pub play-requires-clause-live : goal.play-requires-clause-live
play-requires-clause-live g c κs within = c.loop-event.invariant.played.live_is

pub play-requires-clause-few : goal.play-requires-clause-few
play-requires-clause-few g c κs within =
    let less : c.loop-event.event-index < length (map entry c.args.events.now) = omega (arith, length-map c.args.events.now entry, c.loop-event-test.true) in
    let long = length_played _ _ _ c.loop-event.invariant.played.log_is less in
    let few = c.requires.few in
    let test = c.loop-event-test.true in
    omega (arith, length-map c.args.events.now entry)

pub play-requires-clause-stamp : goal.play-requires-clause-stamp
play-requires-clause-stamp g c κs within =
    let less : c.loop-event.event-index < length (map entry c.args.events.now) = omega (arith, length-map c.args.events.now entry, c.loop-event-test.true) in
    c.requires.stamped _ _ (item_at c.args.events.now c.loop-event.event-index c.event-item.result c.loop-event-test.true c.event-item.is)
    ∙ sym (length_played _ _ _ c.loop-event.invariant.played.log_is less)

pub returns-in-Err-clause-start : goal.returns-in-Err-clause-start
returns-in-Err-clause-start g c = c.play.ensures.start ∙ c.loop-event.invariant.start_is

pub returns-in-Err-clause-stops : goal.returns-in-Err-clause-stops
returns-in-Err-clause-stops g c =
    let at = item_at c.args.events.now c.loop-event.event-index c.event-item.result c.loop-event-test.true c.event-item.is in
    let start = c.loop-event.invariant.played.start_is in
    let which = subst (λ (s : Start). (c.in-Err.fault ≡ Memory) ⊎ (entry_fault s (g.K.SyscallKernel.log c.loop-event.kernel) (entry c.event-item.result) ≡ Some c.in-Err.fault)) start c.in-Err.ensures.fault in
    let left = subst (λ (s : Start). g.K.SyscallKernel.log c.play.new.kernel ≡ left_at s (g.K.SyscallKernel.log c.loop-event.kernel) (entry c.event-item.result) c.in-Err.fault) start c.in-Err.ensures.left in
    stops_for _ _ _ _ at _ c.loop-event.invariant.played.log_is c.loop-event.invariant.played.faultless c.in-Err.fault _ which left

pub loop-event-preserved : goal.loop-event-preserved
loop-event-preserved g c =
    let at = item_at c.args.events.now c.loop-event.event-index c.event-item.result c.loop-event-test.true c.event-item.is in
    let start = c.loop-event.invariant.played.start_is in
    let none = subst (λ (s : Start). entry_fault s (g.K.SyscallKernel.log c.loop-event.kernel) (entry c.event-item.result) ≡ None) start c.in-Ok.ensures.fault in
    record {
      start_is = c.play.ensures.start ∙ c.loop-event.invariant.start_is;
      played = played_more _ _ _ _ at _ c.loop-event.invariant.played.log_is c.loop-event.invariant.played.faultless _ _ _ (c.play.ensures.known ∙ start) c.in-Ok.ensures.comes c.in-Ok.ensures.live none;
    }

pub returns-clause-start : goal.returns-clause-start
returns-clause-start g c = c.loop-event.invariant.start_is

pub returns-clause-sound : goal.returns-clause-sound
returns-clause-sound g c =
    let past : length (map entry c.args.events.now) ≤ c.loop-event.event-index = omega (arith, length-map c.args.events.now entry, c.loop-event-test.false) in
    all_sound _ _ _ _ _ _ c.loop-event.invariant.played past c.requires.stamped

pub returns-clause-served : goal.returns-clause-served
returns-clause-served g c =
    let past : length (map entry c.args.events.now) ≤ c.loop-event.event-index = omega (arith, length-map c.args.events.now entry, c.loop-event-test.false) in
    all_served _ _ _ _ _ _ c.loop-event.invariant.played past
