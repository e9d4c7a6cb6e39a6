use Rattle.std.proofs.Common.{◌≡◌, ◌∙◌, ◌+◌, ◌++◌, [], ◌∷◌, sym, ap, subst, map, take, List, arith}
use Rattle.std.specs.Prelude.{Contains}
use Rattle.std.proofs.lemmas.List.{take_more, take_all}
use mathlib.Core.List.{map-append}
use Rattle.nv_calls.specs.Calls.{Entry, entry}
use Rattle.nv_calls.specs.Logs.{live_after}
use Rattle.nv_calls.specs.declared.calls.Event.{Event}
use Rattle.nv_room_tests.proofs.Living.{lives_on}
use Rattle.nv_room_tests.proofs.lives.goes_on.Goals as goal

pub loop-event-preserved : goal.loop-event-preserved
loop-event-preserved c =
    let xs : List Event = c.args.history.now in
    let e : Event = c.event-item.result in
    let t = c.loop-event-test.true in
    let more : take (c.loop-event.event-index + 1) xs ≡ take c.loop-event.event-index xs ++ e ∷ [] = take_more xs c.loop-event.event-index e t ∙ ap (λ z. take c.loop-event.event-index xs ++ z ∷ []) (sym c.event-item.is) in
    let mapped : map entry (take (c.loop-event.event-index + 1) xs) ≡ map entry (take c.loop-event.event-index xs) ++ entry e ∷ [] = ap (map entry) more ∙ map-append entry (take c.loop-event.event-index xs) (e ∷ []) in
    subst (λ (z : List Entry). Contains (live_after z) 100) (sym mapped) (lives_on (map entry (take c.loop-event.event-index xs)) (entry e) 100 (c.if-event-eq-EXIT_GROUP.false, c.if-event-eq-EXIT.false) c.loop-event.invariant)

pub returns : goal.returns
returns c = let t = c.loop-event-test.false in subst (λ (z : List Event). Contains (live_after (map entry z)) 100) (take_all c.loop-event.event-index c.args.history.now (omega arith)) c.loop-event.invariant
