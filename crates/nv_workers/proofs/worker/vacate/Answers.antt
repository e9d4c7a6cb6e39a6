use Rattle.std.proofs.Common.{ℕ, sym, subst}
use Rattle.nv_room.specs.Seats.{left_view, stations_of}
use Rattle.nv_workers.specs.inner.Stepping.{CanLeave}
use Rattle.nv_workers.proofs.Moving.{left_ended, given_ended}
use Rattle.nv_workers.specs.declared.worker.Seat.TheVariants.{Gone}
use Rattle.nv_workers.specs.Views.{GoesBySteps}
use Rattle.nv_workers.proofs.SeatSteps.{reader_leaves, lead_leaves}
use Rattle.nv_workers.proofs.worker.vacate.Goals as goal

pub returns-in-Reading-clause-works : goal.returns-in-Reading-clause-works
returns-in-Reading-clause-works g c = λ judges most p v buf l.
    let h = subst (λ s. CanLeave judges c.args.room.now p v most s) c.in-Reading.is l in
    let e = c.leave.ensures in
    (e.of, left_ended h.1 e.station.1 e.view)

pub returns-in-Leading-clause-works : goal.returns-in-Leading-clause-works
returns-in-Leading-clause-works g c = λ judges most p v buf l.
    let h = subst (λ s. CanLeave judges c.args.room.now p v most s) c.in-Leading.is l in
    let e = c.give_up.ensures in
    (e.of, given_ended h.2 e.version (left_view c.give_up.result).owner_last e.view)

pub returns-in-Reading-clause-steps : goal.returns-in-Reading-clause-steps
returns-in-Reading-clause-steps g c =
    let n : ℕ = stations_of c.args.room.now in
    subst (λ s. GoesBySteps n s (Gone c.leave.result)) (sym c.in-Reading.is) (reader_leaves n c.in-Reading.reader c.in-Reading.held c.leave.result c.leave.ensures.view)

pub returns-in-Leading-clause-steps : goal.returns-in-Leading-clause-steps
returns-in-Leading-clause-steps g c =
    let n : ℕ = stations_of c.args.room.now in
    subst (λ s. GoesBySteps n s (Gone c.give_up.result)) (sym c.in-Leading.is) (lead_leaves n c.in-Leading.lead c.in-Leading.asked c.give_up.result (left_view c.give_up.result).owner_last c.give_up.ensures.view)
