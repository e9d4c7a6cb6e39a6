use Rattle.std.proofs.Common.{◌∙◌, ap, sym, subst, refl, ◌+◌, List, map, take, drop, arith}
use Rattle.nv_script.specs.Arrivals.{Arrival}
use Rattle.nv_script.specs.ArrivalViews.{view as arrival_of}
use Rattle.nv_arriving.specs.Arriving.{Standing, arrive, arrive_all}
use Rattle.nv_arriving.specs.Reserved.{CanTakeIn}
use Rattle.nv_arriving.specs.Views.{standing_of, room_of}
use Rattle.nv_arriving.proofs.Rooms.{room_first, can_take}
use Rattle.nv_arriving.proofs.Sides.{arrive_last, same_but_none, same_but_more}
use Rattle.nv_arriving.proofs.Steps.{step, rest_step, whole}
use Rattle.nv_arriving.proofs.guests.GuestSide.arrive_all.Goals as goal

pub loop-arrival-init : goal.loop-arrival-init
loop-arrival-init c = record { standing = refl; disk = same_but_none c.args.self.now.host.devices.files; none = λ _. refl; kept = λ h. h; takes = c.requires }

pub arrive-requires : goal.arrive-requires
arrive-requires c =
    let rest = rest_step c.args.arrivals.now c.loop-arrival.arrival-index c.arrival-item.result c.loop-arrival-test.true c.arrival-item.is in
    room_first (room_of c.loop-arrival.self) (arrival_of c.arrival-item.result) (map arrival_of (drop (c.loop-arrival.arrival-index + 1) c.args.arrivals.now))
    (subst (CanTakeIn (room_of c.loop-arrival.self)) rest c.loop-arrival.invariant.takes)

pub loop-arrival-preserved : goal.loop-arrival-preserved
loop-arrival-preserved c =
    let a : Arrival = arrival_of c.arrival-item.result in
    let front : List Arrival = map arrival_of (take c.loop-arrival.arrival-index c.args.arrivals.now) in
    let back : List Arrival = map arrival_of (drop (c.loop-arrival.arrival-index + 1) c.args.arrivals.now) in
    let rest = rest_step c.args.arrivals.now c.loop-arrival.arrival-index c.arrival-item.result c.loop-arrival-test.true c.arrival-item.is in
    record {
      standing = c.arrive.ensures.standing ∙ (ap (λ (s : Standing). arrive s a) c.loop-arrival.invariant.standing
          ∙ (sym (arrive_last (standing_of c.args.self.now) front a)
          ∙ ap (arrive_all (standing_of c.args.self.now)) (sym (step c.args.arrivals.now c.loop-arrival.arrival-index c.arrival-item.result c.loop-arrival-test.true c.arrival-item.is))));
      disk = same_but_more _ _ _ c.loop-arrival.invariant.disk c.arrive.ensures.disk;
      none = λ e. absurd (omega (arith, e, c.loop-arrival-test.true));
      kept = λ h. c.arrive.ensures.kept (c.loop-arrival.invariant.kept h);
      takes = can_take (room_of c.arrive.new.self) back (c.arrive.ensures.room back (subst (CanTakeIn (room_of c.loop-arrival.self)) rest c.loop-arrival.invariant.takes));
    }

pub returns-clause-standing : goal.returns-clause-standing
returns-clause-standing c = c.loop-arrival.invariant.standing ∙ ap (arrive_all (standing_of c.args.self.now)) (whole c.args.arrivals.now c.loop-arrival.arrival-index c.loop-arrival-test.false)

pub returns-clause-disk : goal.returns-clause-disk
returns-clause-disk c = c.loop-arrival.invariant.disk

pub returns-clause-none : goal.returns-clause-none
returns-clause-none c = c.loop-arrival.invariant.none

pub returns-clause-kept : goal.returns-clause-kept
returns-clause-kept c = c.loop-arrival.invariant.kept
