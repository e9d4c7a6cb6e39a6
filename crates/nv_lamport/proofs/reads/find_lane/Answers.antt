use Rattle.std.proofs.Common.{arith, refl, sym, ap, subst, ◌∙◌, ◌≡◌, ◌<◌, ◌+◌, ℕ, length, true, false}
use Rattle.nv_room.specs.Stamps.{Lives}
use Rattle.nv_room.specs.Logs.{lanes_after}
use Rattle.nv_room.specs.Room.{Has}
use Rattle.nv_room.specs.Kinds.{probes}
use Rattle.nv_room.specs.Seats.{stations_of, view}
use Rattle.nv_room.proofs.Stepped.{no_step, one_step, more_steps}
use Rattle.nv_lamport.proofs.Keeping.{keeps_itself, keeps_missing}
use Rattle.nv_lamport.proofs.Missing.{missed_more, missed_passed, first_lives}
use Rattle.nv_lamport.proofs.reads.find_lane.Goals as goal

pub loop-lane-init : goal.loop-lane-init
loop-lane-init g c = record {
  same = (refl, refl, refl, refl);
  of = c.requires.of;
  kept = keeps_itself _;
  steps = no_step (stations_of c.args.room.now) (view c.args.reader.now);
  ahead = c.requires.published;
  read = refl;
  missed = λ j l. absurd (omega arith);
  open_lane = λ l. absurd (omega arith);
}

pub loop-lane-preserved : goal.loop-lane-preserved
loop-lane-preserved g c = let i = c.loop-lane.invariant in let e = c.probe.ensures in let old = view c.loop-lane.reader in let v = e.miss c.if-probe.false in let lane : ℕ = c.loop-lane.lane in record {
  same = (e.same.0 ∙ i.same.0, e.same.1 ∙ i.same.1, e.same.2 ∙ i.same.2, e.same.3 ∙ i.same.3);
  of = e.of;
  kept = keeps_missing _ _ lane _ v i.kept;
  steps = (let n : ℕ = stations_of c.args.room.now in more_steps n (view c.args.reader.now) old (view c.probe.new.reader) i.steps (one_step n old (view c.probe.new.reader) (probes lane e.word.0) e.word.1));
  ahead = subst (λ w. length w.seen < w.head_last) (sym v) i.ahead;
  read = ap (λ w. w.read) v ∙ i.read;
  missed = subst (λ w. (j : ℕ) → j < lane + 1 → Lives w.seen j → Has w.missed j) (sym v) (missed_more (Lives old.seen) old.missed lane i.missed);
  open_lane = λ _. e.open c.if-probe.false;
}

pub loop-lane-preserved-then-not-lives : goal.loop-lane-preserved-then-not-lives
loop-lane-preserved-then-not-lives g c = let i = c.loop-lane.invariant in let old = view c.loop-lane.reader in let lane : ℕ = c.loop-lane.lane in let dead = sym c.lives.ensures ∙ c.if-not-lives.true in record {
  same = i.same;
  of = i.of;
  kept = i.kept;
  steps = i.steps;
  ahead = i.ahead;
  read = i.read;
  missed = missed_passed (Lives old.seen) old.missed lane i.missed (λ q. let z : true ≡ false = sym q ∙ dead in cc);
  open_lane = λ _. i.open_lane (first_lives (lanes_after old.seen) lane dead);
}

pub returns : goal.returns
returns g c = let i = c.loop-lane.invariant in let t = c.loop-lane-test.false in let o = i.open_lane (omega arith) in absurd (o.3 (i.missed o.0 (let b = o.1 in omega arith) o.2))

pub returns-then-probe-clause-steps : goal.returns-then-probe-clause-steps
returns-then-probe-clause-steps g c = let n : ℕ = stations_of c.args.room.now in let old = view c.loop-lane.reader in let w = c.probe.ensures.word in
    more_steps n (view c.args.reader.now) old (view c.probe.new.reader) c.loop-lane.invariant.steps (one_step n old (view c.probe.new.reader) (probes c.loop-lane.lane w.0) w.1)
