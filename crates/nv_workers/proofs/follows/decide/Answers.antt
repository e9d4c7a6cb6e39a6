use Rattle.std.proofs.Common.{Bool, sym, ap, subst, ◌∙◌, inl, inr, arith}
use Rattle.std.specs.Prelude.{Contains}
use Rattle.nv_calls.specs.Calls.{Entry, entry}
use Rattle.nv_calls.specs.Logs.{IsNew, child_of}
use Rattle.nv_threads.specs.Threads.{threads}
use Rattle.nv_workers.specs.Terms.{judges_of}
use Rattle.nv_workers.specs.Working.{FollowsOn}
use Rattle.nv_replay.specs.declared.standing.Standing.{Standing}
use Rattle.nv_replay.proofs.Wholes.{none_from}
use Rattle.nv_replay.specs.Sequence.{is_going}
use Rattle.nv_workers.proofs.Reading.{longer, seen_by, off_from, after_rewrote, after_drop, after_exit, after_consumed, held_of, whole_buf, whole_read, event_is, stamp_is, is_below, is_live, is_new, held_reading}
use Rattle.nv_workers.proofs.Growing.{one_more, counted_rises}
use Rattle.nv_room.specs.Seats.{stations_of, view}
use Rattle.nv_room.proofs.Stepped.{no_step}
use Rattle.nv_workers.proofs.follows.decide.Goals as goal

pub event-event-requires : goal.event-event-requires
event-event-requires g c =
    let h = held_of c.requires.follows.2 in
    whole_buf h

pub follow-followed-requires-clause-following : goal.follow-followed-requires-clause-following
follow-followed-requires-clause-following g c =
    let h = held_of c.requires.follows.2 in
    let r = held_reading h in
    record { on = r.on; idle = r.idle }

pub follow-followed-requires-clause-stamp : goal.follow-followed-requires-clause-stamp
follow-followed-requires-clause-stamp g c =
    let h = held_of c.requires.follows.2 in
    let e = event_is h (entry c.event-event.result.now) c.event-event.ensures.spelt c.event-event.ensures.range in
    ap (λ (x : Entry). x.stamp) e ∙ stamp_is h

pub follow-followed-requires-clause-below : goal.follow-followed-requires-clause-below
follow-followed-requires-clause-below g c =
    let h = held_of c.requires.follows.2 in
    is_below h

pub follow-followed-requires-clause-lives : goal.follow-followed-requires-clause-lives
follow-followed-requires-clause-lives g c =
    let h = held_of c.requires.follows.2 in
    let e = event_is h (entry c.event-event.result.now) c.event-event.ensures.spelt c.event-event.ensures.range in
    subst (λ (x : Entry). Contains (threads.live c.args.version.now.at.process) x.call.tid) (sym e) (is_live h)

pub follow-followed-requires-clause-new : goal.follow-followed-requires-clause-new
follow-followed-requires-clause-new g c =
    let h = held_of c.requires.follows.2 in
    let e = event_is h (entry c.event-event.result.now) c.event-event.ensures.spelt c.event-event.ensures.range in
    subst (λ (x : Entry). IsNew (threads.live c.args.version.now.at.process) (child_of x)) (sym e) (is_new h)

pub advance-requires-clause-polled : goal.advance-requires-clause-polled
advance-requires-clause-polled g c κs within =
    let h = held_of c.requires.follows.2 in
    whole_read h

pub returns-in-Rewrote-clause-after : goal.returns-in-Rewrote-clause-after
returns-in-Rewrote-clause-after g c = λ most p f.
    let e = c.event-event.ensures in
    let t = c.in-Rewrote.ensures.told in
    subst (λ (b : Bool). FollowsOn (judges_of c.args.terms.now) c.args.room.now most p c.follow-followed.new.self c.args.reader.now b c.args.buf.now) (sym c.requires.held)
    (after_rewrote f (entry c.event-event.result.now) e.spelt e.range c.follow-followed.new.self c.follow-followed.ensures.new t.0 t.2)

pub returns-in-Dropped-clause-after : goal.returns-in-Dropped-clause-after
returns-in-Dropped-clause-after g c = λ most p f.
    let e = c.event-event.ensures in
    let t = c.in-Dropped.ensures.told in
    (f.of, after_drop f (entry c.event-event.result.now) e.spelt e.range c.follow-followed.new.self c.follow-followed.ensures.new t.0 (ap is_going t.2))

pub returns-then-is_some-clause-after : goal.returns-then-is_some-clause-after
returns-then-is_some-clause-after g c = λ most p f.
    let e = c.event-event.ensures in
    let a = c.advance.ensures in
    let one = seen_by _ _ c.args.version.now.at c.follow-followed.new.self.at c.in-Matched.is c.follow-followed.ensures.told in
    let off = off_from _ _ (sym c.if-is_some.ensures) (ap (λ (x : Standing). x.fate) c.standing.ensures) in
    (a.of, after_exit f (entry c.event-event.result.now) e.spelt e.range c.follow-followed.new.self c.follow-followed.ensures.new c.advance.new.reader a.same a.view one off)

pub returns-else-is_some-clause-after : goal.returns-else-is_some-clause-after
returns-else-is_some-clause-after g c = λ most p f.
    let e = c.event-event.ensures in
    let a = c.advance.ensures in
    let one = seen_by _ _ c.args.version.now.at c.follow-followed.new.self.at c.in-Matched.is c.follow-followed.ensures.told in
    let on = none_from _ _ (sym c.if-is_some.ensures) (ap (λ (x : Standing). x.fate) c.standing.ensures) in
    after_consumed f (entry c.event-event.result.now) e.spelt e.range c.follow-followed.new.self c.follow-followed.ensures.new c.advance.new.reader a.of a.same a.view one on

pub returns-in-Rewrote-clause-grown : goal.returns-in-Rewrote-clause-grown
returns-in-Rewrote-clause-grown g c =
    let t = c.in-Rewrote.ensures.told in
    inr (omega (arith, t.1))

pub returns-else-is_some-clause-grown : goal.returns-else-is_some-clause-grown
returns-else-is_some-clause-grown g c =
    inl (longer _ _ _ (ap (λ w. w.seen) c.advance.ensures.view))

pub returns-then-is_some-clause-one : goal.returns-then-is_some-clause-one
returns-then-is_some-clause-one g c = one_more _ _ _ (ap (λ w. w.seen) c.advance.ensures.view)

pub returns-else-is_some-clause-one : goal.returns-else-is_some-clause-one
returns-else-is_some-clause-one g c = one_more _ _ _ (ap (λ w. w.seen) c.advance.ensures.view)

pub returns-in-Rewrote-clause-rewrites : goal.returns-in-Rewrote-clause-rewrites
returns-in-Rewrote-clause-rewrites g c = counted_rises _ _ c.args.version.now.at c.follow-followed.new.self.at c.follow-followed.ensures.told

pub returns-in-Dropped-clause-rewrites : goal.returns-in-Dropped-clause-rewrites
returns-in-Dropped-clause-rewrites g c = counted_rises _ _ c.args.version.now.at c.follow-followed.new.self.at c.follow-followed.ensures.told

pub returns-then-is_some-clause-rewrites : goal.returns-then-is_some-clause-rewrites
returns-then-is_some-clause-rewrites g c = counted_rises _ _ c.args.version.now.at c.follow-followed.new.self.at c.follow-followed.ensures.told

pub returns-else-is_some-clause-rewrites : goal.returns-else-is_some-clause-rewrites
returns-else-is_some-clause-rewrites g c = counted_rises _ _ c.args.version.now.at c.follow-followed.new.self.at c.follow-followed.ensures.told

pub returns-in-Rewrote-clause-steps : goal.returns-in-Rewrote-clause-steps
returns-in-Rewrote-clause-steps g c = no_step (stations_of c.args.room.now) (view c.args.reader.now)

pub returns-in-Dropped-clause-steps : goal.returns-in-Dropped-clause-steps
returns-in-Dropped-clause-steps g c = no_step (stations_of c.args.room.now) (view c.args.reader.now)
