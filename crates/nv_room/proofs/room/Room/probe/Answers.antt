use Rattle.std.proofs.Common.{rules, arith, sym, ap, ◌∙◌, ◌<◌, ◌≤◌, ◌≡◌, ℕ, subst, refl, length}
use Rattle.std.proofs.lemmas.Bool.{eqb-false}
use Rattle.std.specs.Prelude.{◌==◌}
use Rattle.nv_words.specs.Spelling.{low}
use Rattle.nv_room.specs.Logs.{lanes_after}
use Rattle.nv_room.specs.declared.spot.Spot.{Spot}
use Rattle.nv_room.specs.Placement.{next_slot, table_words}
use Rattle.nv_room.specs.Caches.{HasNext}
use Rattle.nv_room.specs.Trails.{Trails, IsSpot, NotedAt}
use Rattle.nv_room.specs.Steps.{IsOpen, probed_at}
use Rattle.nv_room.proofs.Probes.{probes}
use Rattle.nv_room.proofs.Placement.{spot_inside}
use Rattle.nv_room.proofs.Finds.{spot_in, spot_second, probed_hit, probed_miss, probed_same, noted_after}
use Rattle.nv_room.proofs.room.Room.probe.Goals as goal

pub word-at-requires : goal.word-at-requires
word-at-requires g c = let r = c.args.reader.now in let v = r.seat.me.0 in let room = c.args.self.now in let o = c.requires.of in let f = room.few in
    let at = spot_in room.places v.seen c.args.lane c.spot-spot.result (omega arith) (c.spot-spot.ensures v.seen v.read (subst (λ (z : ℕ). Trails z r.trail v.seen v.read) o.2 r.trail_is)) in
    record { lane = at.0; place = at.1; first = at.2; sizes = (f.1, f.3); small = omega arith }

pub load-word-requires : goal.load-word-requires
load-word-requires g c =
    let k = c.args.self.now.sizes in
    let r = c.args.reader.now in
    let v = r.seat.me.0 in
    let room = c.args.self.now in
    let o = c.requires.of in
    let f = room.few in
    let lane : ℕ = c.args.lane in
    let s : Spot = c.spot-spot.result in
    let at : IsSpot room.places v.seen lane s = c.spot-spot.ensures v.seen v.read (subst (λ (z : ℕ). Trails z r.trail v.seen v.read) o.2 r.trail_is) in
    let inn = spot_in room.places v.seen lane s (omega arith) at in
    let is : c.word-at.result ≡ next_slot room.stations room.places (lanes_after v.seen) lane 1 = c.word-at.ensures ∙ spot_second room.stations room.places v.seen lane s at in (
      search rules,
      subst (λ (z : ℕ). c.word-at.result < z) (sym k.2) (subst (λ (z : ℕ). z < table_words room.stations room.places) (sym c.word-at.ensures) (spot_inside room.stations room.places s.lane s.place s.first 1 inn.0 inn.1)),
      probes _ _ _ _ _ _ lane _ r.role c.requires.lane c.requires.lives c.requires.published (is ∙ (λ j. next_slot (sym k.0 j) (sym k.1 j) (lanes_after v.seen) lane 1)),
    )

pub invariant_of-reader : goal.invariant_of-reader
invariant_of-reader g c = let r = c.args.reader.now in let v = r.seat.me.0 in let lane : ℕ = c.args.lane in let x : ℕ = c.load-word.result in
    let room = c.args.self.now in let w = c.requires.of in
    let at : IsSpot v.places v.seen lane c.spot-spot.result = subst (λ (z : ℕ). IsSpot z v.seen lane c.spot-spot.result) (sym w.2) (c.spot-spot.ensures v.seen v.read (subst (λ (z : ℕ). Trails z r.trail v.seen v.read) w.2 r.trail_is)) in
    let is : c.word-at.result ≡ next_slot (length v.floors) v.places (lanes_after v.seen) lane 1 =
    c.word-at.ensures ∙ spot_second room.stations room.places v.seen lane c.spot-spot.result
    (c.spot-spot.ensures v.seen v.read (subst (λ (z : ℕ). Trails z r.trail v.seen v.read) w.2 r.trail_is)) ∙ (λ j. next_slot (sym w.3 j) (sym w.2 j) (lanes_after v.seen) lane 1) in
    let play = c.load-word.ensures.2 lane c.requires.lane is in let e = play.0 in
    record {
      role = ap (λ m. m.0.role) e ∙ probed_same lane x v (λ w. w.role) refl refl ∙ r.role;
      free = ap (λ m. m.1) e ∙ r.free;
      station_is = ap (λ m. m.0.station) e ∙ probed_same lane x v (λ w. w.station) refl refl ∙ r.station_is;
      version_is = ap (λ m. m.0.version) e ∙ probed_same lane x v (λ w. w.version) refl refl ∙ r.version_is;
      opened_is = ap (λ m. m.0.opened) e ∙ probed_same lane x v (λ w. w.opened) refl refl ∙ r.opened_is;
      seen_is = ap (λ m. length m.0.seen) e ∙ probed_same lane x v (λ w. length w.seen) refl refl ∙ r.seen_is;
      read_is = ap (λ m. length m.0.read) e ∙ probed_same lane x v (λ w. length w.read) refl refl ∙ r.read_is;
      head_is = subst (λ m. r.head ≤ m.0.head_last) (sym e) (subst (λ (z : ℕ). r.head ≤ z) (sym (probed_same lane x v (λ w. w.head_last) refl refl)) r.head_is);
      few = r.few;
      next = subst (λ m. HasNext m.0.read) (sym e) (subst HasNext (sym (probed_same lane x v (λ w. w.read) refl refl)) r.next);
      trail_is = subst (λ m. Trails m.0.places r.trail m.0.seen m.0.read) (sym e)
          (subst (λ z. Trails z r.trail (probed_at lane v x).seen (probed_at lane v x).read) (sym (probed_same lane x v (λ w. w.places) refl refl))
          (subst (λ z. Trails v.places r.trail z (probed_at lane v x).read) (sym (probed_same lane x v (λ w. w.seen) refl refl))
          (subst (λ z. Trails v.places r.trail v.seen z) (sym (probed_same lane x v (λ w. w.read) refl refl)) r.trail_is)));
      noted_at = subst (λ m. NotedAt c.chosen-reader.result m.0) (sym e) (subst (λ z. NotedAt z (probed_at lane v x)) (sym c.chosen-reader.ensures) (noted_after lane x v r.seen c.spot-spot.result r.spot r.seen_is at r.noted_at));
    }

pub returns-clause-of : goal.returns-clause-of
returns-clause-of g c = let r = c.args.reader.now in let v = r.seat.me.0 in let o = c.requires.of in let lane : ℕ = c.args.lane in let x : ℕ = c.load-word.result in
    let room = c.args.self.now in let w = c.requires.of in
    let at : IsSpot v.places v.seen lane c.spot-spot.result = subst (λ (z : ℕ). IsSpot z v.seen lane c.spot-spot.result) (sym w.2) (c.spot-spot.ensures v.seen v.read (subst (λ (z : ℕ). Trails z r.trail v.seen v.read) w.2 r.trail_is)) in
    let is : c.word-at.result ≡ next_slot (length v.floors) v.places (lanes_after v.seen) lane 1 =
    c.word-at.ensures ∙ spot_second room.stations room.places v.seen lane c.spot-spot.result
    (c.spot-spot.ensures v.seen v.read (subst (λ (z : ℕ). Trails z r.trail v.seen v.read) w.2 r.trail_is)) ∙ (λ j. next_slot (sym w.3 j) (sym w.2 j) (lanes_after v.seen) lane 1) in
    let play = c.load-word.ensures.2 lane c.requires.lane is in let e = play.0 in (
      c.load-word.ensures.0 ∙ o.0,
      o.1,
      ap (λ m. m.0.places) e ∙ probed_same lane x v (λ w. w.places) refl refl ∙ o.2,
      ap (λ m. length m.0.floors) e ∙ probed_same lane x v
          (λ w. length w.floors) refl refl ∙ o.3,
      ap (λ m. m.0.start) e ∙ probed_same lane x v (λ w. w.start) refl refl ∙ o.4,
      subst (λ (z : ℕ). z ≤ room.stations)
          (sym (ap (λ m. m.0.opened) e ∙ probed_same lane x v (λ w. w.opened) refl refl)) o.5,
      subst (λ (z : ℕ). z < room.versions) (sym (ap (λ m. m.0.version) e ∙ probed_same lane x v (λ w. w.version) refl refl)) o.6,
    )

pub returns-clause-hit : goal.returns-clause-hit
returns-clause-hit g c = λ t. let r = c.args.reader.now in let v = r.seat.me.0 in let lane : ℕ = c.args.lane in let x : ℕ = c.load-word.result in
    let room = c.args.self.now in let w = c.requires.of in
    let at : IsSpot v.places v.seen lane c.spot-spot.result = subst (λ (z : ℕ). IsSpot z v.seen lane c.spot-spot.result) (sym w.2) (c.spot-spot.ensures v.seen v.read (subst (λ (z : ℕ). Trails z r.trail v.seen v.read) w.2 r.trail_is)) in
    let is : c.word-at.result ≡ next_slot (length v.floors) v.places (lanes_after v.seen) lane 1 =
    c.word-at.ensures ∙ spot_second room.stations room.places v.seen lane c.spot-spot.result
    (c.spot-spot.ensures v.seen v.read (subst (λ (z : ℕ). Trails z r.trail v.seen v.read) w.2 r.trail_is)) ∙ (λ j. next_slot (sym w.3 j) (sym w.2 j) (lanes_after v.seen) lane 1) in
    let play = c.load-word.ensures.2 lane c.requires.lane is in let e = play.0 in
    ap (λ m. m.0) e ∙ probed_hit lane x v (ap (λ z. low x == z) r.seen_is ∙ t)

pub returns-clause-miss : goal.returns-clause-miss
returns-clause-miss g c = λ t. let r = c.args.reader.now in let v = r.seat.me.0 in let lane : ℕ = c.args.lane in let x : ℕ = c.load-word.result in
    let room = c.args.self.now in let w = c.requires.of in
    let at : IsSpot v.places v.seen lane c.spot-spot.result = subst (λ (z : ℕ). IsSpot z v.seen lane c.spot-spot.result) (sym w.2) (c.spot-spot.ensures v.seen v.read (subst (λ (z : ℕ). Trails z r.trail v.seen v.read) w.2 r.trail_is)) in
    let is : c.word-at.result ≡ next_slot (length v.floors) v.places (lanes_after v.seen) lane 1 =
    c.word-at.ensures ∙ spot_second room.stations room.places v.seen lane c.spot-spot.result
    (c.spot-spot.ensures v.seen v.read (subst (λ (z : ℕ). Trails z r.trail v.seen v.read) w.2 r.trail_is)) ∙ (λ j. next_slot (sym w.3 j) (sym w.2 j) (lanes_after v.seen) lane 1) in
    let play = c.load-word.ensures.2 lane c.requires.lane is in let e = play.0 in
    ap (λ m. m.0) e ∙ probed_miss lane x v (ap (λ z. low x == z) r.seen_is ∙ t)

pub returns-clause-open : goal.returns-clause-open
returns-clause-open g c = λ t. let r = c.args.reader.now in let v = r.seat.me.0 in let lane : ℕ = c.args.lane in let x : ℕ = c.load-word.result in
    let room = c.args.self.now in let w = c.requires.of in
    let at : IsSpot v.places v.seen lane c.spot-spot.result = subst (λ (z : ℕ). IsSpot z v.seen lane c.spot-spot.result) (sym w.2) (c.spot-spot.ensures v.seen v.read (subst (λ (z : ℕ). Trails z r.trail v.seen v.read) w.2 r.trail_is)) in
    let is : c.word-at.result ≡ next_slot (length v.floors) v.places (lanes_after v.seen) lane 1 =
    c.word-at.ensures ∙ spot_second room.stations room.places v.seen lane c.spot-spot.result
    (c.spot-spot.ensures v.seen v.read (subst (λ (z : ℕ). Trails z r.trail v.seen v.read) w.2 r.trail_is)) ∙ (λ j. next_slot (sym w.3 j) (sym w.2 j) (lanes_after v.seen) lane 1) in
    let play = c.load-word.ensures.2 lane c.requires.lane is in let e = play.0 in
    subst (λ w. IsOpen w.seen w.missed) (sym (ap (λ m. m.0) e ∙ probed_miss lane x v (ap (λ z. low x == z) r.seen_is ∙ t))) (play.1 (λ q. eqb-false (low x) r.seen t (q ∙ r.seen_is)))

pub returns-clause-word : goal.returns-clause-word
returns-clause-word g c = let r = c.args.reader.now in let v = r.seat.me.0 in let lane : ℕ = c.args.lane in let x : ℕ = c.load-word.result in
    let room = c.args.self.now in let w = c.requires.of in
    let at : IsSpot v.places v.seen lane c.spot-spot.result = subst (λ (z : ℕ). IsSpot z v.seen lane c.spot-spot.result) (sym w.2) (c.spot-spot.ensures v.seen v.read (subst (λ (z : ℕ). Trails z r.trail v.seen v.read) w.2 r.trail_is)) in
    let is : c.word-at.result ≡ next_slot (length v.floors) v.places (lanes_after v.seen) lane 1 =
    c.word-at.ensures ∙ spot_second room.stations room.places v.seen lane c.spot-spot.result
    (c.spot-spot.ensures v.seen v.read (subst (λ (z : ℕ). Trails z r.trail v.seen v.read) w.2 r.trail_is)) ∙ (λ j. next_slot (sym w.3 j) (sym w.2 j) (lanes_after v.seen) lane 1) in
    let play = c.load-word.ensures.2 lane c.requires.lane is in let e = play.0 in
    (x, ap (λ m. m.0) e)
