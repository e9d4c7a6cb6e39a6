use Rattle.std.proofs.Common.{◌≡◌, ◌≤◌, ap, sym, subst, true, false, ℕ, List, length, map, take, drop, arith}
use Rattle.std.proofs.lemmas.List.{length-map}
use Rattle.nv_calls.specs.Calls.{Entry, Request, request}
use Rattle.nv_calls.proofs.ShapeLaws.{shaped-few}
use Rattle.nv_script.specs.Scripts.{Setup}
use Rattle.nv_calls.specs.Learning.{GoesOn}
use Rattle.nv_script.specs.Arrivals.{Arrival}
use Rattle.nv_script.specs.ArrivalViews.{view as arrival_of}
use Rattle.nv_arriving.specs.Arrivals.{in_vain}
use Rattle.nv_arriving.specs.Arriving.{Standing, wait_of, taken, start_of_arrivals}
use Rattle.nv_arriving.specs.declared.waiting.Intake.{Intake}
use Rattle.nv_arriving.specs.Kernel.{Coming, intake_of}
use Rattle.nv_arriving.specs.Reserved.{Room, CanTakeIn}
use Rattle.nv_arriving.specs.Standing.{StandsAt}
use Rattle.nv_arriving.specs.Telling.{HasHanded}
use Rattle.nv_arriving.specs.Views.{standing_of, room_of}
use Rattle.nv_arriving.proofs.Kept.{first_is}
use Rattle.nv_arriving.proofs.Standings.{stands_heard, hands_heard, goes_heard}
use Rattle.nv_arriving.proofs.answering.GuestsAnswers.reserve.Given.{Over}
use Rattle.nv_arriving.proofs.answering.GuestsAnswers.reserve.Goals.{After-learn}
use Rattle.nv_arriving.proofs.answering.GuestsAnswers.reserve.Goals as goal

pub reserve-requires-clause-few : goal.reserve-requires-clause-few
reserve-requires-clause-few g c = shaped-few (request c.args.call.now) c.requires.shaped

-- where more was heard
module _ (g : Over) (c : After-learn g) where
  abbrev before : List Arrival
  before = map arrival_of c.self.inside.came.items

  abbrev now : List Arrival
  now = map arrival_of c.learn.new.came.items

  few : c.self.inside.used ≤ length before
  few = omega (arith, c.self.invariant.0, length-map c.self.inside.came.items arrival_of)

  same : c.self.inside.over ≡ true → now ≡ before
  same o = ap (map arrival_of) (c.learn.ensures.same o)

  abbrev heard : (found : Intake) (room : Room) → Coming g.row.O.Denot
  heard found room = record {
    stage = record { here = standing_of c.self.inside.side; rest = drop c.self.inside.used now };
    begun = c.self.inside.begun.value;
    outside = c.learn.new.outside;
    came = now;
    intake = found;
    over = c.learn.new.over;
    keeps = c.self.inside.keeps;
    room = room;
  }

  stands : (found : Intake) (room : Room) (setup : Setup) (log : List Entry) → StandsAt g.O.Outside.did g.O.Outside.is_over c.args.self.now setup log → StandsAt g.O.Outside.did g.O.Outside.is_over (heard found room) setup log
  stands found room setup log s = stands_heard g.O.Outside.did g.O.Outside.is_over c.self.inside.begun.value c.self.inside.outside c.learn.new.outside before now c.self.inside.intake found (standing_of c.self.inside.side) c.self.inside.used
      c.self.inside.over c.learn.new.over c.self.inside.keeps (room_of c.self.inside.side) room few c.learn.ensures.over same c.learn.ensures.grew c.learn.ensures.did c.learn.ensures.ended setup log
      (subst (λ (k : Coming g.row.O.Denot). StandsAt g.O.Outside.did g.O.Outside.is_over k setup log) (sym c.self.view_is) s)

  goes : (setup : Setup) (log : List Entry) → StandsAt g.O.Outside.did g.O.Outside.is_over c.args.self.now setup log → GoesOn log (start_of_arrivals setup c.args.self.now.came) (start_of_arrivals setup now)
  goes setup log s = subst (λ (k : Coming g.row.O.Denot). GoesOn log (start_of_arrivals setup k.came) (start_of_arrivals setup now)) c.self.view_is
      (goes_heard g.O.Outside.did g.O.Outside.is_over c.self.inside.begun.value c.self.inside.outside c.learn.new.outside before now c.self.inside.intake c.self.inside.intake (standing_of c.self.inside.side) c.self.inside.used
      c.self.inside.over c.learn.new.over c.self.inside.keeps (room_of c.self.inside.side) (room_of c.self.inside.side) few c.learn.ensures.over same c.learn.ensures.grew c.learn.ensures.did c.learn.ensures.ended setup log
      (subst (λ (k : Coming g.row.O.Denot). StandsAt g.O.Outside.did g.O.Outside.is_over k setup log) (sym c.self.view_is) s))

  hands : (setup : Setup) (log : List Entry) (lengths : List ℕ) → StandsAt g.O.Outside.did g.O.Outside.is_over c.args.self.now setup log
      → HasHanded g.O.Outside.did c.args.self.now.begun c.args.self.now.outside setup c.args.self.now.came log lengths → HasHanded g.O.Outside.did c.self.inside.begun.value c.learn.new.outside setup now log lengths
  hands setup log lengths s h =
      hands_heard g.O.Outside.did g.O.Outside.is_over c.self.inside.begun.value c.self.inside.outside c.learn.new.outside before now c.self.inside.intake c.self.inside.intake (standing_of c.self.inside.side) c.self.inside.used
      c.self.inside.over c.learn.new.over c.self.inside.keeps (room_of c.self.inside.side) (room_of c.self.inside.side) few c.learn.ensures.over same c.learn.ensures.grew c.learn.ensures.did c.learn.ensures.ended setup log lengths
      (subst (λ (k : Coming g.row.O.Denot). StandsAt g.O.Outside.did g.O.Outside.is_over k setup log) (sym c.self.view_is) s)
      (subst (λ (k : Coming g.row.O.Denot). HasHanded g.O.Outside.did k.begun k.outside setup k.came log lengths) (sym c.self.view_is) h)

pub returns-in_err-self-inside-clause-stands : goal.returns-in_err-self-inside-clause-stands
returns-in_err-self-inside-clause-stands g c = stands g (goal.at.returns-in_err-self-inside-clause-stands g c).After-learn c.self.inside.intake (room_of c.self.inside.side)

pub returns-in_err-self-inside-clause-known : goal.returns-in_err-self-inside-clause-known
returns-in_err-self-inside-clause-known g c = goes g (goal.at.returns-in_err-self-inside-clause-known g c).After-learn

pub returns-in_err-self-inside-clause-handed : goal.returns-in_err-self-inside-clause-handed
returns-in_err-self-inside-clause-handed g c = hands g (goal.at.returns-in_err-self-inside-clause-handed g c).After-learn

pub returns-in_err-reserve-clause-stands : goal.returns-in_err-reserve-clause-stands
returns-in_err-reserve-clause-stands g c = λ setup log s.
    subst (λ (z : Standing). StandsAt g.O.Outside.did g.O.Outside.is_over (record (heard g (goal.at.returns-in_err-reserve-clause-stands g c).After-learn c.in_ok-self-inside.field-0 (room_of c.reserve.new.self)) { stage = record { here = z; rest = drop c.self.inside.used (now g (goal.at.returns-in_err-reserve-clause-stands g c).After-learn) } }) setup log) (sym c.reserve.ensures.standing)
    (stands g (goal.at.returns-in_err-reserve-clause-stands g c).After-learn c.in_ok-self-inside.field-0 (room_of c.reserve.new.self) setup log s)

pub returns-in_err-reserve-clause-known : goal.returns-in_err-reserve-clause-known
returns-in_err-reserve-clause-known g c = goes g (goal.at.returns-in_err-reserve-clause-known g c).After-learn

pub returns-in_err-reserve-clause-handed : goal.returns-in_err-reserve-clause-handed
returns-in_err-reserve-clause-handed g c = hands g (goal.at.returns-in_err-reserve-clause-handed g c).After-learn

pub returns-clause-stands : goal.returns-clause-stands
returns-clause-stands g c = λ setup log s.
    subst (λ (z : Standing). StandsAt g.O.Outside.did g.O.Outside.is_over (record (heard g (goal.at.returns-clause-stands g c).After-learn c.in_ok-self-inside.field-0 (room_of c.reserve.new.self)) { stage = record { here = z; rest = drop c.self.inside.used (now g (goal.at.returns-clause-stands g c).After-learn) } }) setup log) (sym c.reserve.ensures.standing)
    (stands g (goal.at.returns-clause-stands g c).After-learn c.in_ok-self-inside.field-0 (room_of c.reserve.new.self) setup log s)

pub returns-clause-known : goal.returns-clause-known
returns-clause-known g c = goes g (goal.at.returns-clause-known g c).After-learn

pub returns-clause-handed : goal.returns-clause-handed
returns-clause-handed g c = hands g (goal.at.returns-clause-handed g c).After-learn

pub returns-clause-ready : goal.returns-clause-ready
returns-clause-ready g c =
    let call : Request = request c.args.call.now in
    let here : Standing = standing_of c.self.inside.side in
    let rest : List Arrival = drop c.self.inside.used (now g (goal.at.returns-clause-ready g c).After-learn) in
    let found : c.in_ok-self-inside.field-0 ≡ intake_of record { here = here; rest = rest } call = c.in_ok-self-inside.ensures.intake in
    let first = first_is here call c.learn.new.came.items c.rest-rest.result.now c.first.result.now c.self.inside.used c.in_ok-self-inside.field-0 c.rest-rest.ensures.is found c.first.ensures in
    let takes = subst (CanTakeIn (room_of c.reserve.new.self)) first c.in_ok-reserve.ensures.takes in
    record {
      found = subst (λ (z : Standing). c.in_ok-self-inside.field-0 ≡ intake_of record { here = z; rest = rest } call) (sym c.reserve.ensures.standing) found;
      takes = subst (λ (z : Standing). CanTakeIn (room_of c.reserve.new.self) (take (taken record { here = z; rest = rest } call) rest)) (sym c.reserve.ensures.standing) takes;
      answer = c.in_ok-reserve.ensures.ready;
      sends = c.in_ok-reserve.ensures.sends;
      waits = λ o. subst (λ (z : Standing). in_vain (wait_of z call) rest ≡ false) (sym c.reserve.ensures.standing) (c.in_ok-self-inside.ensures.waits o);
    }
