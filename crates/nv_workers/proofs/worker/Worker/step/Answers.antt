use Rattle.std.proofs.Common.{ℕ, sym, ap, subst}
use Rattle.nv_workers.specs.Terms.{judges_of}
use Rattle.nv_workers.specs.declared.worker.Seat.TheVariants.{Reading, Leading}
use Rattle.nv_workers.specs.Worker.{WorksAt, IsGone, seen_by}
use Rattle.nv_workers.specs.inner.Stepping.{StepTells}
use Rattle.nv_workers.proofs.Stepping.{after_read, tells_read, tells_lead, gone_ended}
use Rattle.nv_workers.specs.Growing.{OneMoreAtMost}
use Rattle.nv_workers.specs.Measure.{seat_left}
use Rattle.nv_room.specs.Seats.{stations_of}
use Rattle.nv_workers.specs.Views.{GoesBySteps}
use Rattle.nv_workers.proofs.SeatSteps.{goes_nowhere, reads_on, leads_on}
use Rattle.nv_workers.proofs.worker.Worker.step.Goals as goal

pub returns-in-Reading-clause-after : goal.returns-in-Reading-clause-after
returns-in-Reading-clause-after g c = λ p f.
    after_read (judges_of c.args.terms.now) c.args.room.now c.args.terms.now.most p c.follow_turn.new.version c.follow_turn.new.reader c.follow_turn.new.held c.follow_turn.new.buf c.follow_turn.result
    (c.follow_turn.ensures.after c.args.terms.now.most p
    (subst (λ s. WorksAt (judges_of c.args.terms.now) c.args.room.now c.args.terms.now.most p c.args.self.now.version c.args.self.now.buf s) c.in-Reading.is f))

pub returns-in-Reading-clause-tells : goal.returns-in-Reading-clause-tells
returns-in-Reading-clause-tells g c =
    let p = c.requires.works.0 in
    let w = subst (λ s. WorksAt (judges_of c.args.terms.now) c.args.room.now c.args.terms.now.most p c.args.self.now.version c.args.self.now.buf s) c.in-Reading.is c.requires.works.1 in
    subst (λ s. StepTells c.args.room.now c.follow_turn.result c.args.self.now.version c.follow_turn.new.version s (Reading c.follow_turn.new.reader c.follow_turn.new.held)) (sym c.in-Reading.is)
    (tells_read (judges_of c.args.terms.now) c.args.room.now c.args.terms.now.most p c.follow_turn.new.version c.args.self.now.version c.in-Reading.reader c.follow_turn.new.reader c.in-Reading.held
    c.follow_turn.new.held c.follow_turn.new.buf c.follow_turn.result (c.follow_turn.ensures.after c.args.terms.now.most p w) c.follow_turn.ensures.grown c.follow_turn.ensures.idle)

pub returns-in-Gone-clause-tells : goal.returns-in-Gone-clause-tells
returns-in-Gone-clause-tells g c =
    let p = c.requires.works.0 in
    gone_ended (judges_of c.args.terms.now) c.args.room.now c.args.terms.now.most p c.args.self.now.version c.args.self.now.buf c.args.self.now.seat c.requires.works.1
    (subst (λ s. IsGone s) (sym c.in-Gone.is) tt)

pub returns-in-Leading-clause-tells : goal.returns-in-Leading-clause-tells
returns-in-Leading-clause-tells g c =
    let p = c.requires.works.0 in
    let w = subst (λ s. WorksAt (judges_of c.args.terms.now) c.args.room.now c.args.terms.now.most p c.args.self.now.version c.args.self.now.buf s) c.in-Leading.is c.requires.works.1 in
    subst (λ s. StepTells c.args.room.now c.lead_turn.result c.args.self.now.version c.lead_turn.new.version s (Leading c.lead_turn.new.lead c.lead_turn.new.asked)) (sym c.in-Leading.is)
    (tells_lead (judges_of c.args.terms.now) c.args.room.now c.args.terms.now.most p c.lead_turn.new.version c.args.self.now.version c.in-Leading.lead c.lead_turn.new.lead c.in-Leading.asked
    c.lead_turn.new.asked c.lead_turn.result (c.lead_turn.ensures.after (judges_of c.args.terms.now) p w) c.lead_turn.ensures.published c.lead_turn.ensures.late)

pub follow_turn-requires-after_bounds : goal.follow_turn-requires-after_bounds
follow_turn-requires-after_bounds g c κs within = (
  c.args.terms.now.most,
  c.requires.works.0,
  subst (λ s. WorksAt (judges_of c.args.terms.now) c.args.room.now c.args.terms.now.most c.requires.works.0 c.args.self.now.version c.args.self.now.buf s) c.in-Reading.is c.requires.works.1,
)

pub returns-in-Reading-clause-one : goal.returns-in-Reading-clause-one
returns-in-Reading-clause-one g c =
    subst (λ s. OneMoreAtMost (seen_by s) (seen_by (Reading c.follow_turn.new.reader c.follow_turn.new.held))) (sym c.in-Reading.is) c.follow_turn.ensures.one

pub returns-in-Leading-clause-one : goal.returns-in-Leading-clause-one
returns-in-Leading-clause-one g c =
    subst (λ s. OneMoreAtMost (seen_by s) (seen_by (Leading c.lead_turn.new.lead c.lead_turn.new.asked))) (sym c.in-Leading.is) c.lead_turn.ensures.one

pub returns-in-Reading-clause-seat : goal.returns-in-Reading-clause-seat
returns-in-Reading-clause-seat g c = sym (ap seat_left c.in-Reading.is)

pub returns-in-Leading-clause-seat : goal.returns-in-Leading-clause-seat
returns-in-Leading-clause-seat g c = sym (ap seat_left c.in-Leading.is)

pub returns-in-Reading-clause-steps : goal.returns-in-Reading-clause-steps
returns-in-Reading-clause-steps g c =
    let n : ℕ = stations_of c.args.room.now in
    subst (λ s. GoesBySteps n s (Reading c.follow_turn.new.reader c.follow_turn.new.held)) (sym c.in-Reading.is)
    (reads_on n c.in-Reading.reader c.follow_turn.new.reader c.in-Reading.held c.follow_turn.new.held c.follow_turn.ensures.steps)

pub returns-in-Leading-clause-steps : goal.returns-in-Leading-clause-steps
returns-in-Leading-clause-steps g c =
    let n : ℕ = stations_of c.args.room.now in
    subst (λ s. GoesBySteps n s (Leading c.lead_turn.new.lead c.lead_turn.new.asked)) (sym c.in-Leading.is)
    (leads_on n c.in-Leading.lead c.lead_turn.new.lead c.in-Leading.asked c.lead_turn.new.asked c.lead_turn.ensures.steps)

pub returns-in-Gone-clause-steps : goal.returns-in-Gone-clause-steps
returns-in-Gone-clause-steps g c = goes_nowhere (stations_of c.args.room.now) c.args.self.now.seat
