-- Some seat can get on.
use Rattle.std.proofs.Common.{◌≡◌, ◌≢◌, ℕ, zero, suc, ◌+◌, ◌<◌, ◌≤◌, ◌⊎◌, List, length, replicate, sym, refl, ap, ◌∙◌, subst, inl, inr, ⊎_elim, le_refl, lt_of_not-le, arith}
use Rattle.std.specs.Prelude.{Option}
use mathlib.Core.Logic.{dite}
use native.Mathlib.Decide.{ℕ_discrete, dec_le}
use mathlib.Core.Option.{some}
use lib.ListN.{get_elem?}
use Rattle.atomic_table.specs.Table.{State}
use Rattle.nv_calls.specs.Calls.{Entry}
use Rattle.nv_words.proofs.SpellLaws.{prefix_length, prefix_same}
use Rattle.nv_ring.specs.Places.{FitsAll, IsFull}
use Rattle.nv_ring.proofs.Filling.{past_fit}
use Rattle.nv_room.specs.declared.view.View.{View}
use Rattle.nv_room.specs.declared.view.Layout.{Layout}
use Rattle.nv_room.specs.declared.view.Role.{Role}
use Rattle.nv_room.specs.declared.view.Role.TheVariants.{Reader, Lead, Opening, Leaving, Moving, Gone, Spent}
use Rattle.nv_room.specs.Placement.{Log, pool_chunks, chunks_from}
use Rattle.nv_room.specs.Owner.{GONE, Phase, held, free, closed}
use Rattle.nv_room.specs.Room.{cursor, Moment, InRole, Live, Leads, Rule}
use Rattle.nv_room.specs.Steps.{TellsEnd}
use Rattle.nv_laws.specs.GetsOn.{moment, HasEvent, CanGetOn, Stays, SomeSeat, AllSeated, SomeStays, SomeGetsOn, IsLowest}
use Rattle.nv_laws.proofs.Lists.{at_below, there}

-- a place that isn't free is kept by a reader with an event to see
pub full_unread : (c : ℕ) (log : Log) (seen : ℕ) → 0 < c → IsFull c log seen → seen < length log
full_unread c log seen pos full = dite (dec_le (length log) seen)
    (λ past. let f = past_fit c log seen pos past (replicate 518 0) (omega arith) in let few = f.chunks_are_few in absurd (⊎_elim
    (λ (a : seen + c ≤ length log). omega arith)
    (λ (a : pool_chunks c < chunks_from log seen + 8). omega arith)
    full))
    (λ less. lt_of_not-le less)

module _ {K : Type 0} (hist : K → List Entry) (came : K → K → List ℕ → Type 0) (p : Layout K) (s : State (Option K) (View K)) (r : Rule hist came p s) where
  abbrev m : Moment
  m = moment r

  -- the seat of the version that has a station
  pub record Sits (t : ℕ) : Type 0 where
    pub id : ℕ
    pub view : View K
    pub at : get_elem? s.views id ≡ some view
    pub live : Live view.role
    pub has : get_elem? r.seating t ≡ some view.version
    pub others : (u : ℕ) → get_elem? r.seating u ≡ some view.version → u ≢ view.station → (view.role ≡ Moving → u ≢ view.former) → GONE ≤ cursor s.words u

  pub sits : AllSeated p s.views → (t : ℕ) → t < length r.seating → Sits t
  sits all t near = let w = there r.seating t near in let q = all w.0 (r.common.doors.is_version t w.0 w.1) in record {
    id = q.0;
    view = q.1;
    at = q.2;
    live = q.3.0;
    has = w.1 ∙ ap some (sym q.3.1);
    others = ((r.each_seat q.0 q.1 q.2).seated q.3.0).others_are_gone;
  }

  -- it sits there, or it is moving, or the station is gone
  by_role : (t : ℕ) (k : Sits t) → t ≢ k.view.station → (role : Role) → k.view.role ≡ role → (role ≡ Moving) ⊎ (GONE ≤ cursor s.words t)
  by_role t k ne Moving e = inl refl
  by_role t k ne Reader e = inr (k.others t k.has ne (λ mov. let x : Reader ≡ Moving = sym e ∙ mov in cc))
  by_role t k ne Lead e = inr (k.others t k.has ne (λ mov. let x : Lead ≡ Moving = sym e ∙ mov in cc))
  by_role t k ne Opening e = inr (k.others t k.has ne (λ mov. let x : Opening ≡ Moving = sym e ∙ mov in cc))
  by_role t k ne Leaving e = inr (k.others t k.has ne (λ mov. let x : Leaving ≡ Moving = sym e ∙ mov in cc))
  by_role t k ne Gone e = inr (k.others t k.has ne (λ mov. let x : Gone ≡ Moving = sym e ∙ mov in cc))
  by_role t k ne Spent e = inr (k.others t k.has ne (λ mov. let x : Spent ≡ Moving = sym e ∙ mov in cc))

  pub sat : (t : ℕ) (k : Sits t) → (t ≡ k.view.station) ⊎ ((k.view.role ≡ Moving) ⊎ (GONE ≤ cursor s.words t))
  sat t k = dite (ℕ_discrete t k.view.station) (λ e. inl e) (λ ne. inr (by_role t k ne k.view.role refl))

  -- While the room is held

  reads_on : (v : View K) → r.phase ≡ held → v.station ≢ r.holder → cursor s.words v.station < length r.log → (role : Role) → Live role → InRole p.stations p.places m v role → CanGetOn p.places m v role × HasEvent m v
  reads_on v is ne less Reader l k = let a = k.cursor_is_length in let b : length v.seen < length r.log = omega arith in (inl b, b)
  reads_on v is ne less Lead l k = absurd (ne k.is_holder)
  reads_on v is ne less Opening l k = absurd (ne k.is_holder)
  reads_on v is ne less Leaving l k = absurd (k.not_held is)
  reads_on v is ne less Moving l k = absurd (k.not_held is)
  reads_on v is ne less Gone l k = let few : length r.log ≤ 500000000 = r.common.places.log_is_short in let g = k.cursor_is_gone in absurd (omega arith)
  reads_on v is ne less Spent l k = absurd l

  moving_free : (id : ℕ) (v : View K) → get_elem? s.views id ≡ some v → v.role ≡ Moving → r.phase ≡ held → ⊥
  moving_free id v at e is = (subst (InRole p.stations p.places m v) e (r.each_seat id v at).in_role).not_held is

  -- a station behind the log has an event to see
  pub behind : AllSeated p s.views → r.phase ≡ held → (t : ℕ) → t ≢ r.holder → t < length r.seating → cursor s.words t < length r.log
      → SomeSeat s.views (λ v. (v.station ≡ t) × CanGetOn p.places m v v.role × HasEvent m v)
  behind all is t ne near less = let k = sits all t near in let few : length r.log ≤ 500000000 = r.common.places.log_is_short in ⊎_elim
      (λ (e : t ≡ k.view.station). let q = reads_on k.view is (λ f. ne (e ∙ f)) (subst (λ (z : ℕ). cursor s.words z < length r.log) e less) k.view.role k.live (r.each_seat k.id k.view k.at).in_role in (k.id, k.view, k.at, (sym e, q.0, q.1)))
      (λ (q : (k.view.role ≡ Moving) ⊎ (GONE ≤ cursor s.words t)). ⊎_elim
      (λ (e : k.view.role ≡ Moving). absurd (moving_free k.id k.view k.at e is))
      (λ (g : GONE ≤ cursor s.words t). absurd (omega arith))
      q)
      (sat t k)

  -- each other station has seen the whole log or left, or one hasn't
  place_or_late : (k : ℕ) → k ≤ length r.seating → ((t : ℕ) → t ≢ r.holder → t < k → FitsAll p.places r.log (cursor s.words t))
      ⊎ ((t : ℕ) × (t ≢ r.holder) × (t < length r.seating) × (cursor s.words t < length r.log))
  place_or_late zero le = inl (λ t ne lt. absurd (omega arith))
  place_or_late (suc k) le = ⊎_elim
      (λ (f : (t : ℕ) → t ≢ r.holder → t < k → FitsAll p.places r.log (cursor s.words t)). dite (ℕ_discrete k r.holder)
      (λ own. inl (λ t ne lt. dite (ℕ_discrete t k) (λ e. absurd (ne (e ∙ own))) (λ other. f t ne (omega arith))))
      (λ other. dite (dec_le (length r.log) (cursor s.words k))
      (λ past. inl (λ t ne lt. dite (ℕ_discrete t k) (λ e. subst (λ (z : ℕ). FitsAll p.places r.log (cursor s.words z)) (sym e) (past_fit p.places r.log (cursor s.words k) r.common.places.some_place past)) (λ ne2. f t ne (omega arith))))
      (λ late. inr (k, other, (omega arith), lt_of_not-le late))))
      (λ late. inr late)
      (place_or_late k (omega arith))

  lead_on : AllSeated p s.views → r.phase ≡ held → (id : ℕ) (v : View K) → get_elem? s.views id ≡ some v → v.station ≡ r.holder → (role : Role) → v.role ≡ role → Leads role → SomeGetsOn p.places m s.views
  lead_on all is id v at st Reader e l = absurd l
  lead_on all is id v at st Lead e l = ⊎_elim
      (λ (f : (t : ℕ) → t ≢ r.holder → t < length r.seating → FitsAll p.places r.log (cursor s.words t)). (id, v, at, subst (CanGetOn p.places m v) (sym e) (λ t ne lt. f t (λ q. ne (q ∙ sym st)) lt)))
      (λ (late : (t : ℕ) × (t ≢ r.holder) × (t < length r.seating) × (cursor s.words t < length r.log)). let b = behind all is late.0 late.1 late.2 late.3 in (b.0, b.1, b.2, b.3.1))
      (place_or_late (length r.seating) (le_refl (length r.seating)))
  lead_on all is id v at st Opening e l = (id, v, at, subst (CanGetOn p.places m v) (sym e) tt)
  lead_on all is id v at st Leaving e l = absurd l
  lead_on all is id v at st Moving e l = absurd l
  lead_on all is id v at st Gone e l = absurd l
  lead_on all is id v at st Spent e l = absurd l

  pub held_gets_on : AllSeated p s.views → r.phase ≡ held → SomeGetsOn p.places m s.views
  held_gets_on all is = let l = r.held_has_lead is in lead_on all is l.0 l.1 l.2 l.4 l.1.role refl l.3

  pub lead_there : r.phase ≡ held → SomeSeat s.views (λ v. (v.station ≡ r.holder) × Leads v.role)
  lead_there is = let l = r.held_has_lead is in (l.0, l.1, l.2, (l.4, l.3))

  -- whom the next event's place waits for
  pub waited_for : AllSeated p s.views → r.phase ≡ held → (t : ℕ) → t ≢ r.holder → t < length r.seating → ¬ FitsAll p.places r.log (cursor s.words t)
      → SomeSeat s.views (λ v. (v.station ≡ t) × CanGetOn p.places m v v.role × HasEvent m v)
  waited_for all is t ne near full = dite (dec_le (length r.log) (cursor s.words t))
      (λ past. absurd (full (past_fit p.places r.log (cursor s.words t) r.common.places.some_place past)))
      (λ late. behind all is t ne near (lt_of_not-le late))

  -- While it is free

  free_held : r.phase ≡ free → r.phase ≡ held → ⊥
  free_held is h = let q : free ≡ held = sym is ∙ h in cc

  short : (v : View K) (id : ℕ) → get_elem? s.views id ≡ some v → length v.seen ≤ length r.log
  short v id at = prefix_length v.seen r.log (r.each_seat id v at).seen_is_prefix

  lowest_on : (v : View K) → r.phase ≡ free → length v.seen ≤ length r.log → cursor s.words v.station < GONE → ((t : ℕ) → t < v.station → GONE ≤ cursor s.words t) → (role : Role) → Live role → InRole p.stations p.places m v role → CanGetOn p.places m v role
  lowest_on v is few here lower Reader l k = dite (dec_le (length r.log) (length v.seen))
      (λ le. inr (inl record { is_free = is; all_seen = (omega arith); lower_gone = lower }))
      (λ gt. inl (lt_of_not-le gt))
  lowest_on v is few here lower Lead l k = absurd (free_held is k.is_held)
  lowest_on v is few here lower Opening l k = absurd (free_held is k.is_held)
  lowest_on v is few here lower Leaving l k = tt
  lowest_on v is few here lower Moving l k = tt
  lowest_on v is few here lower Gone l k = let g = k.cursor_is_gone in absurd (omega arith)
  lowest_on v is few here lower Spent l k = absurd l

  pub lowest_gets_on : AllSeated p s.views → r.phase ≡ free → (t : ℕ) → IsLowest m t → SomeSeat s.views (λ v. (get_elem? r.seating t ≡ some v.version) × CanGetOn p.places m v v.role)
  lowest_gets_on all is t low = let k = sits all t low.is_open in let v = k.view in let kn = r.each_seat k.id v k.at in let here = low.not_left in (
    k.id,
    v,
    k.at,
    (
      k.has,
      ⊎_elim
          (λ (e : t ≡ v.station). lowest_on v is (short v k.id k.at) (subst (λ (z : ℕ). cursor s.words z < GONE) e here) (subst (λ (z : ℕ). (u : ℕ) → u < z → GONE ≤ cursor s.words u) e low.lower_gone) v.role k.live kn.in_role)
          (λ (q : (v.role ≡ Moving) ⊎ (GONE ≤ cursor s.words t)). ⊎_elim
          (λ (e : v.role ≡ Moving). subst (CanGetOn p.places m v) (sym e) tt)
          (λ (g : GONE ≤ cursor s.words t). absurd (omega arith))
          q)
          (sat t k),
    ),
  )

  lowest_below : (k : ℕ) → k ≤ length r.seating → ((t : ℕ) → t < k → GONE ≤ cursor s.words t) ⊎ ((t : ℕ) × IsLowest m t)
  lowest_below zero le = inl (λ t lt. absurd (omega arith))
  lowest_below (suc k) le = ⊎_elim
      (λ (f : (t : ℕ) → t < k → GONE ≤ cursor s.words t). dite (dec_le GONE (cursor s.words k))
      (λ g. inl (λ t lt. dite (ℕ_discrete t k) (λ e. subst (λ (z : ℕ). GONE ≤ cursor s.words z) (sym e) g) (λ ne. f t (omega arith))))
      (λ n. inr (k, record { is_open = (omega arith); not_left = lt_of_not-le n; lower_gone = f })))
      (λ q. inr q)
      (lowest_below k (omega arith))

  stays_counts : (v : View K) → r.phase ≡ free → length v.seen ≤ length r.log → (role : Role) → Stays role → InRole p.stations p.places m v role → cursor s.words v.station < GONE
  stays_counts v is few Reader l k = let a = k.cursor_is_length in let b : length r.log ≤ 500000000 = r.common.places.log_is_short in omega arith
  stays_counts v is few Lead l k = absurd (free_held is k.is_held)
  stays_counts v is few Opening l k = absurd (free_held is k.is_held)
  stays_counts v is few Leaving l k = let a = k.cursor_is_count in let b : length r.log ≤ 500000000 = r.common.places.log_is_short in omega arith
  stays_counts v is few Moving l k = let a = k.cursor_is_length in let b : length r.log ≤ 500000000 = r.common.places.log_is_short in omega arith
  stays_counts v is few Gone l k = absurd l
  stays_counts v is few Spent l k = absurd l

  stays_lives : (role : Role) → Stays role → Live role
  stays_lives Reader l = tt
  stays_lives Lead l = tt
  stays_lives Opening l = tt
  stays_lives Leaving l = tt
  stays_lives Moving l = tt
  stays_lives Gone l = absurd l
  stays_lives Spent l = absurd l

  free_gets_on : AllSeated p s.views → SomeStays s.views → r.phase ≡ free → SomeGetsOn p.places m s.views
  free_gets_on all w is = let v = w.1 in let kn = r.each_seat w.0 v w.2 in let here = stays_counts v is (short v w.0 w.2) v.role w.3 kn.in_role in
      let last = (kn.seated (stays_lives v.role w.3)).last in let near = at_below r.seating v.station v.version last.has in ⊎_elim
      (λ (f : (t : ℕ) → t < length r.seating → GONE ≤ cursor s.words t). let g = f v.station near in absurd (omega arith))
      (λ (q : (t : ℕ) × IsLowest m t). let o = lowest_gets_on all is q.0 q.1 in (o.0, o.1, o.2, o.3.1))
      (lowest_below (length r.seating) (le_refl (length r.seating)))

  -- And closed

  closed_held : r.phase ≡ closed → r.phase ≡ held → ⊥
  closed_held is h = let q : closed ≡ held = sym is ∙ h in cc

  ends : (xs : Log) → r.phase ≡ closed → xs ≡ r.log → TellsEnd xs
  ends xs is same = (r.common.events, r.common.log_is_spelt ∙ sym same, r.common.log_is_lawful, r.common.closed_has_ended is)

  closed_on : (v : View K) (id : ℕ) → get_elem? s.views id ≡ some v → r.phase ≡ closed → (role : Role) → Stays role → InRole p.stations p.places m v role → CanGetOn p.places m v role
  closed_on v id at is Reader l k = dite (dec_le (length r.log) (length v.seen))
      (λ le. let few = short v id at in inr (inr record { is_closed = is; has_ended = ends v.seen is (prefix_same v.seen r.log (omega arith) (r.each_seat id v at).seen_is_prefix) }))
      (λ gt. inl (lt_of_not-le gt))
  closed_on v id at is Lead l k = absurd (closed_held is k.is_held)
  closed_on v id at is Opening l k = absurd (closed_held is k.is_held)
  closed_on v id at is Leaving l k = tt
  closed_on v id at is Moving l k = tt
  closed_on v id at is Gone l k = absurd l
  closed_on v id at is Spent l k = absurd l

  by_phase : AllSeated p s.views → SomeStays s.views → (ph : Phase) → r.phase ≡ ph → SomeGetsOn p.places m s.views
  by_phase all w held is = held_gets_on all is
  by_phase all w free is = free_gets_on all w is
  by_phase all w closed is = (w.0, w.1, w.2, closed_on w.1 w.0 w.2 is w.1.role w.3 (r.each_seat w.0 w.1 w.2).in_role)

  pub not_stuck : AllSeated p s.views → SomeStays s.views → SomeGetsOn p.places m s.views
  not_stuck all w = by_phase all w r.phase refl
