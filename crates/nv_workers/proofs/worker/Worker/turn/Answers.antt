use Rattle.std.proofs.Common.{◌∙◌, ap, inl, inr, arith}
use Rattle.nv_workers.specs.Terms.{judges_of}
use Rattle.nv_replay.specs.Sequence.{is_going}
use Rattle.nv_replay.specs.Version.{Running}
use Rattle.nv_threads.specs.Threads.{Proc}
use Rattle.nv_workers.proofs.Stepping.{took_from, took_stays}
use Rattle.nv_workers.proofs.Rotating.{read_grown}
use Rattle.nv_workers.proofs.Measure.{works_few, hands_lead, leaves_some, zero_gone, at_most_two, took_one, gone_none, moved_falls, ahead_falls, seat_falls, hands_falls, stays_level}
use Rattle.nv_room.specs.Seats.{stations_of}
use Rattle.nv_workers.proofs.SeatSteps.{goes_further}
use Rattle.nv_workers.proofs.worker.Worker.turn.Goals as goal

pub returns-in-Moved-clause-works : goal.returns-in-Moved-clause-works
returns-in-Moved-clause-works g c = λ p f. (c.in-Moved.ensures.after p f).0

pub returns-in-Moved-clause-last : goal.returns-in-Moved-clause-last
returns-in-Moved-clause-last g c = (c.in-Moved.ensures.after c.requires.works.0 c.requires.works.1).1

pub returns-in-Moved-clause-tells : goal.returns-in-Moved-clause-tells
returns-in-Moved-clause-tells g c = (read_grown c.in-Moved.ensures.tells.0, c.in-Moved.ensures.tells.1)

pub returns-in-Ahead-clause-works : goal.returns-in-Ahead-clause-works
returns-in-Ahead-clause-works g c = λ p f. (c.in-Ahead.ensures.after p f).0

pub returns-in-Ahead-clause-last : goal.returns-in-Ahead-clause-last
returns-in-Ahead-clause-last g c = (c.in-Ahead.ensures.after c.requires.works.0 c.requires.works.1).1

pub returns-in-Waits-clause-works : goal.returns-in-Waits-clause-works
returns-in-Waits-clause-works g c = λ p f. (c.in-Waits.ensures.after p f).0

pub returns-in-Waits-clause-last : goal.returns-in-Waits-clause-last
returns-in-Waits-clause-last g c = (c.in-Waits.ensures.after c.requires.works.0 c.requires.works.1).1

pub promote-requires-clause-can : goal.promote-requires-clause-can
promote-requires-clause-can g c κs within =
    (judges_of c.args.terms.now, c.args.terms.now.most, c.requires.works.0, c.in-Leads.ensures.after c.requires.works.0 c.requires.works.1)

pub returns-in-Leads-clause-works : goal.returns-in-Leads-clause-works
returns-in-Leads-clause-works g c = λ p f. c.promote.ensures.works (judges_of c.args.terms.now) c.args.terms.now.most p (c.in-Leads.ensures.after p f)

pub returns-in-Leads-clause-last : goal.returns-in-Leads-clause-last
returns-in-Leads-clause-last g c = took_stays c.step.new.self.seat c.promote.new.self.seat c.promote.ensures.leads

pub returns-in-Leads-clause-tells : goal.returns-in-Leads-clause-tells
returns-in-Leads-clause-tells g c =
    (inr (inr (took_from c.args.self.now.seat c.step.new.self.seat c.promote.new.self.seat c.in-Leads.ensures.tells c.promote.ensures.leads)), c.promote.ensures.on)

pub hand_over-requires-clause-can : goal.hand_over-requires-clause-can
hand_over-requires-clause-can g c κs within =
    (judges_of c.args.terms.now, c.args.terms.now.most, c.requires.works.0, c.in-Hands.ensures.after c.requires.works.0 c.requires.works.1)

pub returns-in-Hands-clause-works : goal.returns-in-Hands-clause-works
returns-in-Hands-clause-works g c = λ p f. c.hand_over.ensures.works (judges_of c.args.terms.now) c.args.terms.now.most p (c.in-Hands.ensures.after p f)

pub returns-in-Hands-clause-tells : goal.returns-in-Hands-clause-tells
returns-in-Hands-clause-tells g c =
    let grew = c.in-Hands.ensures.tells.0 in
    let same = c.hand_over.ensures.seen in
    (inl (omega arith), c.hand_over.ensures.fate ∙ c.in-Hands.ensures.tells.1)

pub depart-requires-clause-can : goal.depart-requires-clause-can
depart-requires-clause-can g c κs within =
    (judges_of c.args.terms.now, c.args.terms.now.most, c.requires.works.0, c.in-Leaves.ensures.after c.requires.works.0 c.requires.works.1)

pub returns-in-Leaves-clause-works : goal.returns-in-Leaves-clause-works
returns-in-Leaves-clause-works g c = λ p f. c.depart.ensures.works (judges_of c.args.terms.now) c.args.terms.now.most p (c.in-Leaves.ensures.after p f)

pub returns-in-Leaves-clause-tells : goal.returns-in-Leaves-clause-tells
returns-in-Leaves-clause-tells g c = ap (λ (v : Running Proc). is_going v.at.fate) c.depart.ensures.same ∙ c.in-Leaves.ensures.tells

pub returns-in-Left-clause-works : goal.returns-in-Left-clause-works
returns-in-Left-clause-works g c = λ p f. (c.in-Left.ensures.after p f).0

pub returns-in-Left-clause-last : goal.returns-in-Left-clause-last
returns-in-Left-clause-last g c = (c.in-Left.ensures.after c.requires.works.0 c.requires.works.1).1

pub returns-in-Leads-clause-one : goal.returns-in-Leads-clause-one
returns-in-Leads-clause-one g c =
    let one = c.in-Leads.ensures.one in
    let same = c.promote.ensures.seen in
    (omega arith, omega arith)

pub returns-in-Hands-clause-one : goal.returns-in-Hands-clause-one
returns-in-Hands-clause-one g c =
    let one = c.in-Hands.ensures.one in
    let same = c.hand_over.ensures.seen in
    (omega arith, omega arith)

pub returns-in-Leaves-clause-one : goal.returns-in-Leaves-clause-one
returns-in-Leaves-clause-one g c =
    let one = c.in-Leaves.ensures.one in
    let same = c.depart.ensures.seen in
    (omega arith, omega arith)

pub returns-in-Leads-clause-rewrites : goal.returns-in-Leads-clause-rewrites
returns-in-Leads-clause-rewrites g c =
    let a = c.in-Leads.ensures.rewrites in
    let b = c.promote.ensures.rewrites in
    omega arith

pub returns-in-Hands-clause-rewrites : goal.returns-in-Hands-clause-rewrites
returns-in-Hands-clause-rewrites g c =
    let a = c.in-Hands.ensures.rewrites in
    let b = c.hand_over.ensures.rewrites in
    omega arith

pub returns-in-Leaves-clause-rewrites : goal.returns-in-Leaves-clause-rewrites
returns-in-Leaves-clause-rewrites g c =
    let a = c.in-Leaves.ensures.rewrites in
    let b = ap (λ (v : Running Proc). v.at.rewrites) c.depart.ensures.same in
    omega arith

pub returns-in-Moved-clause-falls : goal.returns-in-Moved-clause-falls
returns-in-Moved-clause-falls g c =
    let e = c.in-Moved.ensures in
    let most = c.rewrites-few.ensures.few in
    let is = c.rewrites-few.ensures.is in
    let few = works_few (judges_of c.args.terms.now) c.args.room.now c.args.terms.now.most c.requires.works.0 c.step.new.self.version c.step.new.self.buf c.step.new.self.seat (e.after c.requires.works.0 c.requires.works.1).0 in
    moved_falls _ _ _ _ _ _ _ _ e.one e.rewrites few e.tells.0 (omega arith) e.spare e.seat

pub returns-in-Ahead-clause-falls : goal.returns-in-Ahead-clause-falls
returns-in-Ahead-clause-falls g c =
    let e = c.in-Ahead.ensures in
    let few = works_few (judges_of c.args.terms.now) c.args.room.now c.args.terms.now.most c.requires.works.0 c.step.new.self.version c.step.new.self.buf c.step.new.self.seat (e.after c.requires.works.0 c.requires.works.1).0 in
    ahead_falls _ _ _ _ _ _ _ _ e.one e.rewrites few e.spare e.seat

pub returns-in-Waits-clause-falls : goal.returns-in-Waits-clause-falls
returns-in-Waits-clause-falls g c =
    let e = c.in-Waits.ensures in
    let few = works_few (judges_of c.args.terms.now) c.args.room.now c.args.terms.now.most c.requires.works.0 c.step.new.self.version c.step.new.self.buf c.step.new.self.seat (e.after c.requires.works.0 c.requires.works.1).0 in
    let spare = e.spare in
    let seat = e.seat in
    stays_level _ _ _ _ _ _ _ _ e.one e.rewrites few (omega arith) (omega arith)

pub returns-in-Left-clause-falls : goal.returns-in-Left-clause-falls
returns-in-Left-clause-falls g c =
    let e = c.in-Left.ensures in
    let few = works_few (judges_of c.args.terms.now) c.args.room.now c.args.terms.now.most c.requires.works.0 c.step.new.self.version c.step.new.self.buf c.step.new.self.seat (e.after c.requires.works.0 c.requires.works.1).0 in
    let spare = e.spare in
    let seat = e.seat in
    let none = gone_none c.step.new.self.seat (e.after c.requires.works.0 c.requires.works.1).1 in (
      stays_level _ _ _ _ _ _ _ _ e.one e.rewrites few (omega arith) (omega arith),
      λ stood. absurd (stood (zero_gone (judges_of c.args.terms.now) c.args.room.now c.args.terms.now.most c.requires.works.0 c.args.self.now.version c.args.self.now.buf c.args.self.now.seat c.requires.works.1 (omega arith))),
    )

pub returns-in-Leads-clause-falls : goal.returns-in-Leads-clause-falls
returns-in-Leads-clause-falls g c =
    let e = c.in-Leads.ensures in
    let w = c.promote.ensures.works (judges_of c.args.terms.now) c.args.terms.now.most c.requires.works.0 (e.after c.requires.works.0 c.requires.works.1) in
    let few = works_few (judges_of c.args.terms.now) c.args.room.now c.args.terms.now.most c.requires.works.0 c.promote.new.self.version c.promote.new.self.buf c.promote.new.self.seat w in
    let seen = c.promote.ensures.seen in
    let one = e.one in
    let rises = e.rewrites in
    let kept = c.promote.ensures.rewrites in
    let took = took_one c.step.new.self.seat c.promote.new.self.seat c.promote.ensures.leads in
    let seat = e.seat in
    seat_falls _ _ _ _ _ _ _ _ (omega arith, omega arith) (omega arith) few (c.promote.ensures.spare ∙ e.spare) (omega arith)

pub returns-in-Hands-clause-falls : goal.returns-in-Hands-clause-falls
returns-in-Hands-clause-falls g c =
    let e = c.in-Hands.ensures in
    let can = e.after c.requires.works.0 c.requires.works.1 in
    let w = c.hand_over.ensures.works (judges_of c.args.terms.now) c.args.terms.now.most c.requires.works.0 can in
    let few = works_few (judges_of c.args.terms.now) c.args.room.now c.args.terms.now.most c.requires.works.0 c.hand_over.new.self.version c.hand_over.new.self.buf c.hand_over.new.self.seat w in
    let seen = c.hand_over.ensures.seen in
    let one = e.one in
    let rises = e.rewrites in
    let kept = c.hand_over.ensures.rewrites in
    let was = hands_lead (judges_of c.args.terms.now) c.args.room.now c.args.terms.now.most c.requires.works.0 c.step.new.self.version c.step.new.self.buf c.step.new.self.seat can in
    let now = at_most_two c.hand_over.new.self.seat in
    let seat = e.seat in
    let grew = e.tells.0 in
    hands_falls _ _ _ _ _ _ _ _ (omega arith, omega arith) (omega arith) few (omega arith) (c.hand_over.ensures.spare ∙ e.spare) (omega arith)

pub returns-in-Leaves-clause-falls : goal.returns-in-Leaves-clause-falls
returns-in-Leaves-clause-falls g c =
    let e = c.in-Leaves.ensures in
    let can = e.after c.requires.works.0 c.requires.works.1 in
    let w = c.depart.ensures.works (judges_of c.args.terms.now) c.args.terms.now.most c.requires.works.0 can in
    let few = works_few (judges_of c.args.terms.now) c.args.room.now c.args.terms.now.most c.requires.works.0 c.depart.new.self.version c.depart.new.self.buf c.depart.new.self.seat w in
    let seen = c.depart.ensures.seen in
    let one = e.one in
    let rises = e.rewrites in
    let kept = ap (λ (v : Running Proc). v.at.rewrites) c.depart.ensures.same in
    let none = gone_none c.depart.new.self.seat c.depart.ensures.gone in
    let some = leaves_some (judges_of c.args.terms.now) c.args.room.now c.args.terms.now.most c.requires.works.0 c.step.new.self.version c.step.new.self.buf c.step.new.self.seat can in
    let seat = e.seat in
    let spare = c.depart.ensures.spare ∙ e.spare in (
      stays_level _ _ _ _ _ _ _ _ (omega arith, omega arith) (omega arith) few (omega arith) (omega arith),
      λ stood. seat_falls _ _ _ _ _ _ _ _ (omega arith, omega arith) (omega arith) few spare (omega arith),
    )

pub returns-in-Leads-clause-steps : goal.returns-in-Leads-clause-steps
returns-in-Leads-clause-steps g c = goes_further (stations_of c.args.room.now) c.args.self.now.seat c.step.new.self.seat c.promote.new.self.seat c.step.ensures.steps c.promote.ensures.steps

pub returns-in-Hands-clause-steps : goal.returns-in-Hands-clause-steps
returns-in-Hands-clause-steps g c = goes_further (stations_of c.args.room.now) c.args.self.now.seat c.step.new.self.seat c.hand_over.new.self.seat c.step.ensures.steps c.hand_over.ensures.steps

pub returns-in-Leaves-clause-steps : goal.returns-in-Leaves-clause-steps
returns-in-Leaves-clause-steps g c = goes_further (stations_of c.args.room.now) c.args.self.now.seat c.step.new.self.seat c.depart.new.self.seat c.step.ensures.steps c.depart.ensures.steps
