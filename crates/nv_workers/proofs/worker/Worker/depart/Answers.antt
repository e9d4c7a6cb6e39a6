use Rattle.std.proofs.Common.{sym, subst}
use Rattle.nv_workers.specs.inner.Stepping.{CanLeave}
use Rattle.nv_room.specs.Seats.{stations_of}
use Rattle.nv_workers.specs.Views.{GoesBySteps}
use Rattle.nv_workers.specs.declared.worker.Seat.TheVariants.{Gone}
use Rattle.nv_workers.proofs.worker.Worker.depart.Goals as goal

pub vacate-left-requires-clause-can : goal.vacate-left-requires-clause-can
vacate-left-requires-clause-can g c κs within =
    let r = c.requires.can in
    (r.0, r.1, r.2, c.args.self.now.version, subst (λ s. CanLeave r.0 c.args.room.now r.2 c.args.self.now.version r.1 s) (sym c.replace-seat.ensures.value) r.3)

pub returns-clause-works : goal.returns-clause-works
returns-clause-works g c = λ judges most p l.
    c.vacate-left.ensures.works judges most p c.args.self.now.version c.args.self.now.buf
    (subst (λ s. CanLeave judges c.args.room.now p c.args.self.now.version most s) (sym c.replace-seat.ensures.value) l)

pub returns-clause-steps : goal.returns-clause-steps
returns-clause-steps g c =
    subst (λ s. GoesBySteps (stations_of c.args.room.now) s (Gone c.vacate-left.result)) c.replace-seat.ensures.value c.vacate-left.ensures.steps
