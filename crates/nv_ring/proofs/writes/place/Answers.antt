use Rattle.std.proofs.Common.{◌≡◌, ◌≢◌, ◌<◌, ◌≤◌, ◌+◌, ℕ, List, length, get_or, ap, refl, le_refl, sym, subst, ◌∙◌, arith}
use Rattle.nv_room.specs.Placement.{Log, Fits}
use Rattle.nv_room.specs.Kinds.{looks_cursor}
use Rattle.nv_room.specs.Seats.{lead_view, stations_of, cursor_word}
use Rattle.nv_room.proofs.Stepped.{no_step, one_step, more_steps}
use Rattle.nv_ring.specs.Places.{FitsAll}
use Rattle.nv_ring.proofs.Filling.{still_fit, past_fit, ready_more, ready_set}
use Rattle.nv_ring.proofs.writes.place.Goals.{then-station-own-via-then-station-own, then-station-own-via-else-station-own+then-has_room, in-Gone, in-At+else-not-has_room}
use Rattle.nv_ring.proofs.writes.place.Goals as goal

pub loop-station-init : goal.loop-station-init
loop-station-init g c = record {
  of = c.requires;
  same = (refl, refl, refl, refl, refl, refl);
  due = refl;
  kernel = refl;
  seen = refl;
  wrote = refl;
  spans = refl;
  looks = le_refl (lead_view c.args.lead.now).cursor_looks;
  steps = no_step (stations_of c.args.room.now) (lead_view c.args.lead.now);
  ready = λ s other below. absurd (omega arith);
}

pub loop-station-preserved-then-station-own : goal.loop-station-preserved-then-station-own
loop-station-preserved-then-station-own g c =
    let i = c.loop-station.invariant in
    let old = lead_view c.loop-station.lead in
    let log : Log = (lead_view c.args.lead.now).seen in
    let places : ℕ = c.args.room.now.places in
    let station : ℕ = c.loop-station.station in
    let near : station < length old.floors = (let t = c.loop-station-test.true in let all = c.opened-station-end.ensures.view in let wide = i.of.3 in let fit = c.requires.5 in omega arith) in
    record {
      of = i.of;
      same = i.same;
      due = i.due;
      kernel = i.kernel;
      seen = i.seen;
      wrote = i.wrote;
      spans = i.spans;
      looks = i.looks;
      steps = i.steps;
      ready = ready_more (λ s. FitsAll places log (get_or old.floors s 0)) c.station-own.result station i.ready
          (λ ne. elim c.then-station-own.branch [
            | then-station-own-via-then-station-own w ↦ absurd (ne w.if-station-own.true)
            | then-station-own-via-else-station-own+then-has_room w ↦ still_fit places log w.floor.result (get_or old.floors station 0) (w.floor.ensures near)
                (subst (λ (z : Log). FitsAll places z w.floor.result) i.seen (w.has_room.ensures.fits w.if-has_room.true))
          ]);
    }

pub loop-station-preserved : goal.loop-station-preserved
loop-station-preserved g c =
    let i = c.loop-station.invariant in
    let e = c.look_cursor.ensures in
    let v = e.view in
    let old = lead_view c.loop-station.lead in
    let log : Log = (lead_view c.args.lead.now).seen in
    let places : ℕ = c.args.room.now.places in
    let station : ℕ = c.loop-station.station in
    let near : station < length old.floors = (let t = c.loop-station-test.true in let all = c.opened-station-end.ensures.view in let wide = i.of.3 in let fit = c.requires.5 in omega arith) in
    let few : length log ≤ 500000000 = (let a = c.args.lead.now.few.0 in let b = c.args.lead.now.seen_is in omega arith) in
    let pos : 0 < places = (let a = c.args.room.now.few.2 in omega arith) in
    let same : (lead_view c.look_cursor.new.lead).seen ≡ log = ap (λ w. w.seen) v ∙ i.seen in
    let fits : FitsAll places log (cursor_word c.look_cursor.result) = elim c.match-look_cursor.branch [
      | in-Gone w ↦ subst (λ z. FitsAll places log (cursor_word z)) (sym w.in-Gone.is) (past_fit places log 18446744073709551615 pos (omega arith))
      | in-At+else-not-has_room w ↦ subst (λ z. FitsAll places log (cursor_word z)) (sym w.in-At.is) (subst (λ (z : Log). FitsAll places z w.in-At.cursor) same (w.has_room-in-At.ensures.fits w.if-not-has_room.false))
    ] in
    record {
      of = e.of;
      same = (e.same.0 ∙ i.same.0, e.same.1 ∙ i.same.1, e.same.2 ∙ i.same.2, e.same.3 ∙ i.same.3, e.same.4 ∙ i.same.4, e.same.5 ∙ i.same.5);
      due = e.due ∙ i.due;
      kernel = e.kernel ∙ i.kernel;
      seen = same;
      wrote = ap (λ w. w.wrote) v ∙ i.wrote;
      spans = ap (λ w. w.spans) v ∙ i.spans;
      looks = (let a = ap (λ w. w.cursor_looks) v in let b = i.looks in omega arith);
      steps = (let n : ℕ = stations_of c.args.room.now in more_steps n (lead_view c.args.lead.now) old (lead_view c.look_cursor.new.lead) i.steps (one_step n old (lead_view c.look_cursor.new.lead) (looks_cursor station (cursor_word c.look_cursor.result)) v));
      ready = subst (λ (fs : List ℕ). (s : ℕ) → s ≢ c.station-own.result → s < station + 1 → FitsAll places log (get_or fs s 0)) (sym (ap (λ w. w.floors) v))
          (ready_set places log c.station-own.result station (cursor_word c.look_cursor.result) old.floors i.ready near fits);
    }

pub returns-clause-placed : goal.returns-clause-placed
returns-clause-placed g c = λ s words other near short.
    let i = c.loop-station.invariant in
    let own = c.station-own.ensures in
    let over = c.loop-station-test.false in
    let all = c.opened-station-end.ensures.value in
    let open' = i.same.4 in
    subst (λ (z : Log). Fits c.args.room.now.places z words (get_or (lead_view c.loop-station.lead).floors s 0)) (sym i.seen) (i.ready s (λ e. other (e ∙ own ∙ sym i.same.2)) (omega arith) words short)

pub returns-then-not-has_room-clause-steps : goal.returns-then-not-has_room-clause-steps
returns-then-not-has_room-clause-steps g c = let n : ℕ = stations_of c.args.room.now in
    more_steps n (lead_view c.args.lead.now) (lead_view c.loop-station.lead) (lead_view c.look_cursor.new.lead) c.loop-station.invariant.steps
    (one_step n (lead_view c.loop-station.lead) (lead_view c.look_cursor.new.lead) (looks_cursor c.loop-station.station (cursor_word c.look_cursor.result)) c.look_cursor.ensures.view)
