use Rattle.std.proofs.Common.{◌≡◌, ◌∙◌, ap, sym, refl, Bool, false, [], ◌∷◌, ◌++◌, List, length, map, append-nil, Ok}
use Rattle.nv_kernel.proofs.Keeping.{map_more}
use Rattle.nv_script.specs.Arrivals.{Arrival}
use Rattle.nv_script.specs.Doings.{Takes}
use Rattle.nv_calls.specs.Calls.{request}
use Rattle.nv_arriving.specs.Arrivals.{ends, any_ends, until}
use Rattle.nv_arriving.specs.Views.{standing_of}
use Rattle.nv_arriving.specs.Kernel.{after}
use Rattle.nv_script.specs.ArrivalViews.{view as arrival_of, taking}
use Rattle.nv_arriving.proofs.Taken.{drop_all, grew_same, grew_still, grew_more, after_more, any_last, takes_more, until_all_of, until_last, any_none_last}
use Rattle.nv_arriving.proofs.Telling.{adds_none, adds_both, adds_is}
use Rattle.nv_arriving.proofs.arrivals.hear.Given.{Over}
use Rattle.nv_arriving.proofs.arrivals.hear.Goals as goal

-- nothing more was heard
still : (before now last : List Arrival) → last ≡ now → map Takes (after before now) ≡ map Takes (after before last)
still before now last e = ap (λ z. map Takes (after before z)) (sym e)

heard : (w : Arrival → Bool) (before now last : List Arrival) → last ≡ now → any_ends w (after before now) ≡ false → until w (after before last) ≡ length (after before last)
heard w before now last e h = ap (λ z. until w (after before z)) e ∙ (until_all_of w (after before now) h ∙ ap (λ z. length (after before z)) (sym e))

pub loop-init : goal.loop-init
loop-init g c =
    let came : List Arrival = map arrival_of c.args.came.now.items in
    record {
      grew = grew_same came came refl;
      did = adds_is g.O.Outside.did c.args.outside.now c.args.outside.now [] (map Takes (after came came))
          (ap (map Takes) (sym (ap (after came) (sym (append-nil came)) ∙ drop_all came []))) (adds_none g.O.Outside.did c.args.outside.now);
      gone = refl;
      none = ap (any_ends (ends (standing_of c.args.side.now) (request c.args.call.now) c.args.want)) (ap (after came) (sym (append-nil came)) ∙ drop_all came []);
    }

pub returns-in_err-reserve-clause-grew : goal.returns-in_err-reserve-clause-grew
returns-in_err-reserve-clause-grew g c = grew_still _ _ _ c.loop.invariant.grew (ap (map arrival_of) c.reserve.ensures.items)

pub returns-in_err-reserve-clause-did : goal.returns-in_err-reserve-clause-did
returns-in_err-reserve-clause-did g c = adds_is g.O.Outside.did _ _ _ _ (still _ _ _ (ap (map arrival_of) c.reserve.ensures.items)) c.loop.invariant.did

pub returns-in_err-reserve-clause-until : goal.returns-in_err-reserve-clause-until
returns-in_err-reserve-clause-until g c = heard (ends (standing_of c.args.side.now) (request c.args.call.now) c.args.want) _ _ _ (ap (map arrival_of) c.reserve.ensures.items) c.loop.invariant.none

pub returns-in_err-arrival-clause-grew : goal.returns-in_err-arrival-clause-grew
returns-in_err-arrival-clause-grew g c = grew_still _ _ _ c.loop.invariant.grew (ap (map arrival_of) c.reserve.ensures.items)

pub returns-in_err-arrival-clause-did : goal.returns-in_err-arrival-clause-did
returns-in_err-arrival-clause-did g c =
    adds_is g.O.Outside.did _ _ _ _ (append-nil _ ∙ still _ _ _ (ap (map arrival_of) c.reserve.ensures.items))
    (adds_both g.O.Outside.did _ _ _ _ [] c.loop.invariant.did c.in_err-arrival.ensures.took)

pub returns-in_err-arrival-clause-until : goal.returns-in_err-arrival-clause-until
returns-in_err-arrival-clause-until g c = heard (ends (standing_of c.args.side.now) (request c.args.call.now) c.args.want) _ _ _ (ap (map arrival_of) c.reserve.ensures.items) c.loop.invariant.none

pub returns-in_default-clause-grew : goal.returns-in_default-clause-grew
returns-in_default-clause-grew g c = grew_still _ _ _ c.loop.invariant.grew (ap (map arrival_of) c.reserve.ensures.items)

pub returns-in_default-clause-did : goal.returns-in_default-clause-did
returns-in_default-clause-did g c =
    adds_is g.O.Outside.did _ _ _ _ (append-nil _ ∙ still _ _ _ (ap (map arrival_of) c.reserve.ensures.items))
    (adds_both g.O.Outside.did _ _ _ _ [] c.loop.invariant.did
    (adds_is g.O.Outside.did c.loop.outside c.next.new.self (taking (Ok c.in_ok-arrival.field-0)) [] (ap (λ o. taking (Ok o)) c.in_default.is) c.in_ok-arrival.ensures.took))

pub returns-in_default-clause-until : goal.returns-in_default-clause-until
returns-in_default-clause-until g c = heard (ends (standing_of c.args.side.now) (request c.args.call.now) c.args.want) _ _ _ (ap (map arrival_of) c.reserve.ensures.items) c.loop.invariant.none

pub returns-in_default-clause-ended : goal.returns-in_default-clause-ended
returns-in_default-clause-ended g c = ap (λ z. any_ends (ends (standing_of c.args.side.now) (request c.args.call.now) c.args.want) (after (map arrival_of c.args.came.now.items) z)) (ap (map arrival_of) c.reserve.ensures.items) ∙ c.loop.invariant.none

module _ (g : Over) (c : goal.Then-last g) where
  all : map arrival_of c.push.new.self.items ≡ map arrival_of c.loop.came.items ++ arrival_of c.in-Some.arrival ∷ []
  all = ap (map arrival_of) c.push.ensures.items ∙ (map_more arrival_of c.reserve.new.self.items c.in-Some.arrival ∙ ap (λ z. map arrival_of z ++ arrival_of c.in-Some.arrival ∷ []) c.reserve.ensures.items)

pub returns-then-last-clause-grew : goal.returns-then-last-clause-grew
returns-then-last-clause-grew g c = grew_more _ _ _ _ c.loop.invariant.grew (all g c)

pub returns-then-last-clause-did : goal.returns-then-last-clause-did
returns-then-last-clause-did g c =
    adds_is g.O.Outside.did _ _ _ _
    (takes_more _ _ (arrival_of c.in-Some.arrival) c.loop.invariant.grew ∙ ap (λ z. map Takes (after (map arrival_of c.args.came.now.items) z)) (sym (all g c)))
    (adds_both g.O.Outside.did _ _ _ _ (Takes (arrival_of c.in-Some.arrival) ∷ []) c.loop.invariant.did
    (adds_is g.O.Outside.did c.loop.outside c.next.new.self (taking (Ok c.in_ok-arrival.field-0)) (Takes (arrival_of c.in-Some.arrival) ∷ []) (ap (λ o. taking (Ok o)) c.in-Some.is) c.in_ok-arrival.ensures.took))

pub returns-then-last-clause-until : goal.returns-then-last-clause-until
returns-then-last-clause-until g c =
    let before : List Arrival = map arrival_of c.args.came.now.items in
    let now : List Arrival = map arrival_of c.loop.came.items in
    let is = ap (after before) (all g c) ∙ after_more before now (arrival_of c.in-Some.arrival ∷ []) c.loop.invariant.grew in
    ap (until (ends (standing_of c.args.side.now) (request c.args.call.now) c.args.want)) is ∙ (until_last (ends (standing_of c.args.side.now) (request c.args.call.now) c.args.want) (after before now) (arrival_of c.in-Some.arrival) c.loop.invariant.none ∙ ap (λ z. length z) (sym is))

pub returns-then-last-clause-ended : goal.returns-then-last-clause-ended
returns-then-last-clause-ended g c =
    let before : List Arrival = map arrival_of c.args.came.now.items in
    let now : List Arrival = map arrival_of c.loop.came.items in
    ap (λ z. any_ends (ends (standing_of c.args.side.now) (request c.args.call.now) c.args.want) (after before z)) (all g c)
    ∙ (ap (any_ends (ends (standing_of c.args.side.now) (request c.args.call.now) c.args.want)) (after_more before now (arrival_of c.in-Some.arrival ∷ []) c.loop.invariant.grew)
    ∙ any_last (ends (standing_of c.args.side.now) (request c.args.call.now) c.args.want) (after before now) (arrival_of c.in-Some.arrival) (sym c.ends-last.ensures ∙ c.if-last.true))

pub loop-preserved : goal.loop-preserved
loop-preserved g c =
    let before : List Arrival = map arrival_of c.args.came.now.items in
    let now : List Arrival = map arrival_of c.loop.came.items in
    let a : Arrival = arrival_of c.in-Some.arrival in
    let all : map arrival_of c.push.new.self.items ≡ now ++ a ∷ [] =
    ap (map arrival_of) c.push.ensures.items ∙ (map_more arrival_of c.reserve.new.self.items c.in-Some.arrival ∙ ap (λ z. map arrival_of z ++ arrival_of c.in-Some.arrival ∷ []) c.reserve.ensures.items) in
    record {
      grew = grew_more _ _ _ _ c.loop.invariant.grew all;
      did = adds_is g.O.Outside.did _ _ _ _ (takes_more before now a c.loop.invariant.grew ∙ ap (λ z. map Takes (after before z)) (sym all))
          (adds_both g.O.Outside.did _ _ _ _ (Takes a ∷ []) c.loop.invariant.did
          (adds_is g.O.Outside.did c.loop.outside c.next.new.self (taking (Ok c.in_ok-arrival.field-0)) (Takes a ∷ []) (ap (λ o. taking (Ok o)) c.in-Some.is) c.in_ok-arrival.ensures.took));
      gone = c.push.ensures.gone ∙ (c.reserve.ensures.gone ∙ c.loop.invariant.gone);
      none = ap (any_ends (ends (standing_of c.args.side.now) (request c.args.call.now) c.args.want)) (ap (after before) all ∙ after_more before now (a ∷ []) c.loop.invariant.grew)
          ∙ any_none_last (ends (standing_of c.args.side.now) (request c.args.call.now) c.args.want) (after before now) a c.loop.invariant.none (sym c.ends-last.ensures ∙ c.if-last.false);
    }

pub returns-clause-grew : goal.returns-clause-grew
returns-clause-grew g c = c.loop.invariant.grew

pub returns-clause-did : goal.returns-clause-did
returns-clause-did g c = c.loop.invariant.did

pub returns-clause-until : goal.returns-clause-until
returns-clause-until g c = until_all_of (ends (standing_of c.args.side.now) (request c.args.call.now) c.args.want) _ c.loop.invariant.none
