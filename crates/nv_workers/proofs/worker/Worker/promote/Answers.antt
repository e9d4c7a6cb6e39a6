use Rattle.std.proofs.Common.{◌≡◌, ◌∙◌, ℕ, None, sym, subst}
use Rattle.nv_workers.specs.declared.worker.Seat.TheVariants.{Reading, Leading}
use Rattle.nv_workers.specs.inner.Stepping.{CanLead}
use Rattle.nv_room.specs.Seats.{stations_of}
use Rattle.nv_workers.specs.Views.{GoesBySteps}
use Rattle.nv_workers.proofs.SeatSteps.{comes_to_lead}
use Rattle.nv_workers.proofs.worker.Worker.promote.Goals as goal

pub returns-clause-works : goal.returns-clause-works
returns-clause-works g c = λ judges most p l.
    let is : c.args.self.now.seat ≡ Reading c.in-Reading.reader c.in-Reading.held = sym c.replace-seat.ensures.value ∙ c.in-Reading.is in
    c.take_lead-lead.ensures.leads judges most p c.args.self.now.buf (subst (λ s. CanLead judges c.args.room.now p c.args.self.now.version most c.args.self.now.buf s) is l).0

pub returns-clause-steps : goal.returns-clause-steps
returns-clause-steps g c =
    let n : ℕ = stations_of c.args.room.now in
    let is : c.args.self.now.seat ≡ Reading c.in-Reading.reader c.in-Reading.held = sym c.replace-seat.ensures.value ∙ c.in-Reading.is in
    subst (λ s. GoesBySteps n s (Leading c.take_lead-lead.result None)) (sym is) (comes_to_lead n c.in-Reading.reader c.take_lead-lead.result c.in-Reading.held None c.take_lead-lead.ensures.steps)
