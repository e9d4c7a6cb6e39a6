use Rattle.std.proofs.Common.{⊎_elim, ◌≡◌, ◌∙◌, ◌+◌, ◌++◌, [], ◌∷◌, sym, ap, subst, map, take, List, arith}
use Rattle.std.specs.Prelude.{Contains}
use Rattle.std.proofs.lemmas.List.{take_more, take_all}
use mathlib.Core.List.{map-append}
use Rattle.nv_calls.specs.Calls.{Entry, entry}
use Rattle.nv_calls.specs.Logs.{live_after, child_of}
use Rattle.nv_room.specs.Lanes.{is_of}
use Rattle.nv_calls.specs.declared.calls.Event.{Event}
use Rattle.nv_room_tests.specs.Going.{GoesOn}
use Rattle.nv_room_tests.proofs.Living.{lives_on, child_lives, either, made_of}
use Rattle.nv_room_tests.proofs.lives.lives_after.Goals as goal

pub loop-event-preserved : goal.loop-event-preserved
loop-event-preserved c = λ lives.
    let xs : List Event = c.args.history.now in
    let e : Event = c.event-item.result in
    let t = c.loop-event-test.true in
    let more : take (c.loop-event.event-index + 1) xs ≡ take c.loop-event.event-index xs ++ e ∷ [] = take_more xs c.loop-event.event-index e t ∙ ap (λ z. take c.loop-event.event-index xs ++ z ∷ []) (sym c.event-item.is) in
    let mapped : map entry (take (c.loop-event.event-index + 1) xs) ≡ map entry (take c.loop-event.event-index xs) ++ entry e ∷ [] = ap (map entry) more ∙ map-append entry (take c.loop-event.event-index xs) (e ∷ []) in
    let prefix : List Event = take c.loop-event.event-index xs in
    let go : GoesOn (entry e).call = (c.if-event-eq-EXIT_GROUP.false, c.if-event-eq-EXIT.false) in
    subst (λ (z : List Entry). Contains (live_after z) c.args.tid) (sym mapped)
    (⊎_elim (λ was. lives_on (map entry prefix) (entry e) c.args.tid go (c.loop-event.invariant was))
    (λ made. child_lives (map entry prefix) (entry e) c.args.tid go (made_of (child_of (entry e)) c.args.tid made))
    (either c.loop-event.lives (is_of c.args.tid (child_of (entry e))) (sym c.lives_on-lives.ensures ∙ lives)))

pub returns : goal.returns
returns c = λ lives. let t = c.loop-event-test.false in subst (λ (z : List Event). Contains (live_after (map entry z)) c.args.tid) (take_all c.loop-event.event-index c.args.history.now (omega arith)) (c.loop-event.invariant lives)
