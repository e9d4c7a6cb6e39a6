use Rattle.std.proofs.Common.{◌≡◌, ◌∙◌, sym, subst, ℕ, Option, true, false}
use Rattle.nv_workers.specs.declared.worker.Seat.TheVariants.{Reading, Leading}
use Rattle.nv_workers.specs.Working.{LeadsOn}
use Rattle.nv_workers.specs.inner.Stepping.{CanHand}
use Rattle.nv_room.specs.Seats.{stations_of}
use Rattle.nv_workers.specs.Views.{GoesBySteps}
use Rattle.nv_workers.proofs.SeatSteps.{comes_to_read}
use Rattle.nv_workers.proofs.worker.Worker.hand_over.Goals as goal

pub give_lead-reader-requires-clause-leads : goal.give_lead-reader-requires-clause-leads
give_lead-reader-requires-clause-leads g c κs within =
    let r = c.requires.can in
    let is : c.args.self.now.seat ≡ Leading c.in-Leading.lead c.in-Leading.asked = sym c.replace-seat.ensures.value ∙ c.in-Leading.is in
    let l = subst (λ s. CanHand r.0 c.args.room.now r.2 c.args.self.now.version r.1 s) is r.3 in
    (r.0, r.1, r.2, subst (λ (o : Option ℕ). LeadsOn r.0 c.args.room.now r.1 r.2 c.args.self.now.version true c.in-Leading.lead o) l.1 l.0)

pub returns-clause-works : goal.returns-clause-works
returns-clause-works g c = λ judges most p h.
    let is : c.args.self.now.seat ≡ Leading c.in-Leading.lead c.in-Leading.asked = sym c.replace-seat.ensures.value ∙ c.in-Leading.is in
    let l = subst (λ s. CanHand judges c.args.room.now p c.args.self.now.version most s) is h in
    c.give_lead-reader.ensures.follows judges most p c.args.self.now.buf
    (subst (λ (o : Option ℕ). LeadsOn judges c.args.room.now most p c.args.self.now.version true c.in-Leading.lead o) l.1 l.0)

pub returns-clause-steps : goal.returns-clause-steps
returns-clause-steps g c =
    let n : ℕ = stations_of c.args.room.now in
    let is : c.args.self.now.seat ≡ Leading c.in-Leading.lead c.in-Leading.asked = sym c.replace-seat.ensures.value ∙ c.in-Leading.is in
    subst (λ s. GoesBySteps n s (Reading c.give_lead-reader.result false)) (sym is) (comes_to_read n c.in-Leading.lead c.give_lead-reader.result c.in-Leading.asked false c.give_lead-reader.ensures.steps)
