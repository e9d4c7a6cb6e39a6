use Rattle.std.proofs.Common.{sym, ap, subst, Bool, arith}
use Rattle.nv_workers.specs.Terms.{judges_of}
use Rattle.nv_replay.specs.Version.{Running}
use Rattle.nv_threads.specs.Threads.{Proc}
use Rattle.nv_workers.specs.Working.{FollowsOn}
use Rattle.nv_workers.specs.Follows.{AfterTurn}
use Rattle.nv_workers.proofs.Reading.{none_held, lives_on, found_none, found_event, found_waiting}
use Rattle.nv_workers.proofs.Growing.{none_more, one_after}
use Rattle.nv_room.specs.Seats.{stations_of, view}
use Rattle.nv_room.proofs.Stepped.{more_steps}
use Rattle.nv_workers.proofs.follows.follow_turn.Goals as goal

pub returns-then-held-clause-after : goal.returns-then-held-clause-after
returns-then-held-clause-after g c = λ most p f.
    c.decide.ensures.after most p
    (subst (λ (b : Bool). FollowsOn (judges_of c.args.terms.now) c.args.room.now most p c.args.version.now c.args.reader.now b c.args.buf.now) c.if-held.true f)

pub find_event-requires-clause-goes_on : goal.find_event-requires-clause-goes_on
find_event-requires-clause-goes_on g c κs within = lives_on (none_held c.if-held.false c.requires.2)

pub begin_event-requires-clause-found : goal.begin_event-requires-clause-found
begin_event-requires-clause-found g c κs within =
    let e = c.in-Event.ensures in
    let f = none_held c.if-held.false c.requires.2 in
    (c.requires.0, c.requires.1, found_event f c.find_event.new.reader e.of e.same e.found.0 e.found.1 c.find_event.new.buf e.found.2 e.found.4)

pub returns-in-Event-clause-after : goal.returns-in-Event-clause-after
returns-in-Event-clause-after g c = λ most p f.
    let e = c.in-Event.ensures in
    c.begin_event.ensures.after most p
    (found_event (none_held c.if-held.false f) c.find_event.new.reader e.of e.same e.found.0 e.found.1 c.find_event.new.buf e.found.2 e.found.4)

pub returns-in-Held-clause-after : goal.returns-in-Held-clause-after
returns-in-Held-clause-after g c = λ most p f.
    let judges = judges_of c.args.terms.now in
    let e = c.in-Held.ensures in
    subst (λ (v : Running Proc). AfterTurn judges c.args.room.now most p v c.find_event.new.reader c.args.held.now c.find_event.new.buf c.go_ahead.result) (sym c.go_ahead.ensures.same)
    (subst (λ (b : Bool). AfterTurn judges c.args.room.now most p c.args.version.now c.find_event.new.reader b c.find_event.new.buf c.go_ahead.result) (sym c.if-held.false)
    (found_waiting (none_held c.if-held.false f) c.find_event.new.reader e.of e.same e.found.0 e.found.1 c.find_event.new.buf e.found.2 c.go_ahead.result c.go_ahead.ensures.waits))

pub returns-in-Free-clause-after : goal.returns-in-Free-clause-after
returns-in-Free-clause-after g c = λ most p f.
    let e = c.in-Free.ensures in
    (found_none (none_held c.if-held.false f) c.find_event.new.reader e.of e.same e.found.0 e.found.1 c.find_event.new.buf e.found.2, e.found.3)

pub returns-in-Event-clause-one : goal.returns-in-Event-clause-one
returns-in-Event-clause-one g c = one_after _ _ _ c.in-Event.ensures.found.0 c.begin_event.ensures.one

pub returns-in-Held-clause-one : goal.returns-in-Held-clause-one
returns-in-Held-clause-one g c = none_more _ _ c.in-Held.ensures.found.0

pub returns-in-Free-clause-one : goal.returns-in-Free-clause-one
returns-in-Free-clause-one g c = none_more _ _ c.in-Free.ensures.found.0

pub returns-in-Held-clause-rewrites : goal.returns-in-Held-clause-rewrites
returns-in-Held-clause-rewrites g c =
    let a = ap (λ (v : Running Proc). v.at.rewrites) c.go_ahead.ensures.same in
    omega arith

pub returns-in-Event-clause-steps : goal.returns-in-Event-clause-steps
returns-in-Event-clause-steps g c =
    more_steps (stations_of c.args.room.now) (view c.args.reader.now) (view c.find_event.new.reader) (view c.begin_event.new.reader) c.find_event.ensures.steps c.begin_event.ensures.steps
