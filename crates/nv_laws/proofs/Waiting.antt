-- A reader that can get on doesn't wait.
use Rattle.std.proofs.Common.{◌≡◌, ◌≢◌, ℕ, ◌%◌, ◌<◌, ◌≤◌, ◌⊎◌, Bool, true, false, List, [], ◌∷◌, length, get_or, sym, refl, ap, ◌∙◌, subst, inl, inr, ⊎_elim, arith, eq-eqb}
use mathlib.Core.Logic.{dite}
use native.Mathlib.Decide.{ℕ_discrete}
use mathlib.Core.Option.{some, some-injective}
use lib.ListN.{get_elem?}
use Rattle.std.specs.Prelude.{Option, cond, ◌==◌}
use Rattle.std.proofs.lemmas.Bool.{eqb-true}
use Rattle.atomic_table.specs.Table.{State}
use Rattle.atomic_table.proofs.Lists.{set_here}
use Rattle.nv_calls.specs.Calls.{Entry}
use Rattle.nv_room.specs.declared.view.View.{View}
use Rattle.nv_room.specs.declared.view.Layout.{Layout}
use Rattle.nv_room.specs.declared.view.Role.TheVariants.{Reader, Lead}
use Rattle.nv_room.specs.Owner.{GONE, Phase, held, free, closed, is_held, is_free, is_closed, owner_word}
use Rattle.nv_room.specs.Room.{cursor, Moment, Rule}
use Rattle.nv_words.specs.Spelling.{low}
use Rattle.nv_room.specs.Steps.{head_seen, owner_seen, cursor_seen, word_seen, with_note, with_miss, probed_at, TellsEnd}
use Rattle.nv_laws.specs.GetsOn.{moment, HasEvent, IsNextToLead, IsOver, CanGetOn}
use Rattle.nv_room.specs.Kinds.{Kind, looks_head, looks_owner, looks_cursor, looks_spare, probes, reads, writes, sees, publishes, takes, gives_up, leaves, opens, hands, moves}
use Rattle.nv_laws.specs.Steps.{gets_on}
use Rattle.nv_laws.specs.Plays.{Does}
use Rattle.nv_laws.specs.Traces.{Finds, Trace, GetsOnByNone, Waits}
use Rattle.nv_laws.proofs.Lists.{at_below}
use Rattle.nv_laws.proofs.Lasting.{same_phase, at_after, longer, next_on, over_on}

module _ {T : Type 0} (old : View T) where
  -- what a reader's looks since then have found: an event; a free room and no lower station; or a closed room
  pub record SawEvent (m : Moment) (v : View T) : Type 0 where
    pub can : HasEvent m v
    pub head : (v.head_looks ≡ old.head_looks) ⊎ (length v.seen < v.head_last)

  pub record SawFree (m : Moment) (v : View T) : Type 0 where
    pub can : IsNextToLead m v
    pub owner : (v.owner_looks ≡ old.owner_looks) ⊎ (is_free v.owner_last ≡ true)
    pub lower : (v.cursor_looks ≡ old.cursor_looks) ⊎ (v.cursor_of < v.station → GONE ≤ v.cursor_last)

  pub record SawClosed (m : Moment) (v : View T) : Type 0 where
    pub can : IsOver m v
    pub owner : (v.owner_looks ≡ old.owner_looks) ⊎ (is_closed v.owner_last ≡ true)

  abbrev pub Saw : Moment → View T → Type 0
  Saw m v = SawEvent m v ⊎ (SawFree m v ⊎ SawClosed m v)

  -- a word isn't two of held, free and closed
  free_held : (x : ℕ) → is_free x ≡ true → is_held x ≡ true → ⊥
  free_held x a b = let e = eqb-true (x % 4) 0 a in let f = eqb-true (x % 4) 1 b in absurd (omega arith)

  closed_held : (x : ℕ) → is_closed x ≡ true → is_held x ≡ true → ⊥
  closed_held x a b = let e = eqb-true (x % 4) 2 a in let f = eqb-true (x % 4) 1 b in absurd (omega arith)

  closed_free : (x : ℕ) → is_closed x ≡ true → is_free x ≡ true → ⊥
  closed_free x a b = let e = eqb-true (x % 4) 2 a in let f = eqb-true (x % 4) 0 b in absurd (omega arith)

  no_wait : (m : Moment) (v : View T) → Saw m v → Waits old v → ⊥
  no_wait m v saw w = ⊎_elim
      (λ (a : SawEvent m v). let up = w.head_looked in let last = w.head_last in ⊎_elim (λ (e : v.head_looks ≡ old.head_looks). absurd (omega arith)) (λ (e : length v.seen < v.head_last). absurd (omega arith)) a.head)
      (λ (b : SawFree m v ⊎ SawClosed m v). ⊎_elim
      (λ (a : SawFree m v). let up = w.owner_looked in ⊎_elim (λ (e : v.owner_looks ≡ old.owner_looks). absurd (omega arith))
      (λ (e : is_free v.owner_last ≡ true). ⊎_elim
      (λ (h : is_held v.owner_last ≡ true). free_held v.owner_last e h)
      (λ (h : (is_free v.owner_last ≡ true) × (v.cursor_of < v.station) × (old.cursor_looks < v.cursor_looks) × (v.cursor_last ≤ 500000000)). let looked = h.2 in let count = h.3 in ⊎_elim
      (λ (c : v.cursor_looks ≡ old.cursor_looks). absurd (omega arith))
      (λ (c : v.cursor_of < v.station → GONE ≤ v.cursor_last). let g = c h.1 in absurd (omega arith))
      a.lower)
      w.owner)
      a.owner)
      (λ (a : SawClosed m v). let up = w.owner_looked in ⊎_elim (λ (e : v.owner_looks ≡ old.owner_looks). absurd (omega arith))
      (λ (e : is_closed v.owner_last ≡ true). ⊎_elim
      (λ (h : is_held v.owner_last ≡ true). closed_held v.owner_last e h)
      (λ (h : (is_free v.owner_last ≡ true) × (v.cursor_of < v.station) × (old.cursor_looks < v.cursor_looks) × (v.cursor_last ≤ 500000000)). closed_free v.owner_last e h.0)
      w.owner)
      a.owner)
      b)
      saw

  -- the seat's own looks, between which the words tell the same
  module _ (m m' : Moment) (len : length m'.log ≡ length m.log) (ph : m'.phase ≡ m.phase) (cur : (t : ℕ) → cursor m'.words t ≡ cursor m.words t) (v : View T) where
    next_same : (w : View T) → w.seen ≡ v.seen → w.station ≡ v.station → IsNextToLead m v → IsNextToLead m' w
    next_same w seen station q = record {
      is_free = ph ∙ q.is_free;
      all_seen = ap (λ (z : List (List ℕ)). length z) seen ∙ q.all_seen ∙ sym len;
      lower_gone = λ t lt. subst (λ (z : ℕ). GONE ≤ z) (sym (cur t)) (q.lower_gone t (subst (λ (z : ℕ). t < z) station lt));
    }

    head_saw : (x : ℕ) → x ≡ length m.log → Saw m v → Saw m' (head_seen v x)
    head_saw x is saw = ⊎_elim
        (λ (a : SawEvent m v). inl record { can = (let c = a.can in omega arith); head = inr (let c = a.can in omega arith) })
        (λ (b : SawFree m v ⊎ SawClosed m v). inr (⊎_elim
        (λ (a : SawFree m v). inl record { can = next_same (head_seen v x) refl refl a.can; owner = a.owner; lower = a.lower })
        (λ (a : SawClosed m v). inr record { can = record { is_closed = ph ∙ a.can.is_closed; has_ended = a.can.has_ended }; owner = a.owner })
        b))
        saw

    owner_saw : (x : ℕ) → (m.phase ≡ free → is_free x ≡ true) → (m.phase ≡ closed → is_closed x ≡ true) → Saw m v → Saw m' (owner_seen v x)
    owner_saw x frees closes saw = ⊎_elim
        (λ (a : SawEvent m v). inl record { can = (let c = a.can in omega arith); head = a.head })
        (λ (b : SawFree m v ⊎ SawClosed m v). inr (⊎_elim
        (λ (a : SawFree m v). inl record { can = next_same (owner_seen v x) refl refl a.can; owner = inr (frees a.can.is_free); lower = a.lower })
        (λ (a : SawClosed m v). inr record { can = record { is_closed = ph ∙ a.can.is_closed; has_ended = a.can.has_ended }; owner = inr (closes a.can.is_closed) })
        b))
        saw

    cursor_saw : (t x : ℕ) → x ≡ cursor m.words t → Saw m v → Saw m' (cursor_seen t v x)
    cursor_saw t x is saw = ⊎_elim
        (λ (a : SawEvent m v). inl record { can = (let c = a.can in omega arith); head = a.head })
        (λ (b : SawFree m v ⊎ SawClosed m v). inr (⊎_elim
        (λ (a : SawFree m v). inl record { can = next_same (cursor_seen t v x) refl refl a.can; owner = a.owner; lower = inr (λ lt. subst (λ (z : ℕ). GONE ≤ z) (sym is) (a.can.lower_gone t lt)) })
        (λ (a : SawClosed m v). inr record { can = record { is_closed = ph ∙ a.can.is_closed; has_ended = a.can.has_ended }; owner = a.owner })
        b))
        saw

    -- a step that leaves the looks, the events and the station
    kept_saw : (w : View T) → w.seen ≡ v.seen → w.station ≡ v.station → w.head_looks ≡ v.head_looks → w.head_last ≡ v.head_last → w.owner_looks ≡ v.owner_looks → w.owner_last ≡ v.owner_last
        → w.cursor_looks ≡ v.cursor_looks → w.cursor_of ≡ v.cursor_of → w.cursor_last ≡ v.cursor_last → Saw m v → Saw m' w
    kept_saw w seen station heads head owners owner cursors of last saw = let size = ap (λ (z : List (List ℕ)). length z) seen in ⊎_elim
        (λ (a : SawEvent m v). inl record { can = (let c = a.can in omega arith); head = ⊎_elim (λ (e : v.head_looks ≡ old.head_looks). inl (heads ∙ e)) (λ (e : length v.seen < v.head_last). inr (omega arith)) a.head })
        (λ (b : SawFree m v ⊎ SawClosed m v). inr (⊎_elim
        (λ (a : SawFree m v). inl record {
          can = next_same w seen station a.can;
          owner = ⊎_elim (λ (e : v.owner_looks ≡ old.owner_looks). inl (owners ∙ e)) (λ (e : is_free v.owner_last ≡ true). inr (ap is_free owner ∙ e)) a.owner;
          lower = ⊎_elim (λ (e : v.cursor_looks ≡ old.cursor_looks). inl (cursors ∙ e)) (λ (e : v.cursor_of < v.station → GONE ≤ v.cursor_last). inr (λ lt. (let g = e (omega arith) in omega arith))) a.lower;
        })
        (λ (a : SawClosed m v). inr record {
          can = record { is_closed = ph ∙ a.can.is_closed; has_ended = subst TellsEnd (sym seen) a.can.has_ended };
          owner = ⊎_elim (λ (e : v.owner_looks ≡ old.owner_looks). inl (owners ∙ e)) (λ (e : is_closed v.owner_last ≡ true). inr (ap is_closed owner ∙ e)) a.owner;
        })
        b))
        saw

    probe_saw : (l : ℕ) (b : Bool) → Saw m v → Saw m' (cond b (with_note l v) (with_miss l v))
    probe_saw l true saw = kept_saw (with_note l v) refl refl refl refl refl refl refl refl refl saw
    probe_saw l false saw = kept_saw (with_miss l v) refl refl refl refl refl refl refl refl refl saw

word_free : (x h o n : ℕ) (ph : Phase) → x ≡ owner_word ph h o n → ph ≡ free → is_free x ≡ true
word_free x h o n held is e = let q : held ≡ free = e in cc
word_free x h o n free is e = eq-eqb (x % 4) 0 (omega arith)
word_free x h o n closed is e = let q : closed ≡ free = e in cc

word_closed : (x h o n : ℕ) (ph : Phase) → x ≡ owner_word ph h o n → ph ≡ closed → is_closed x ≡ true
word_closed x h o n held is e = let q : held ≡ closed = e in cc
word_closed x h o n free is e = let q : free ≡ closed = e in cc
word_closed x h o n closed is e = eq-eqb (x % 4) 2 (omega arith)

by_probe : {T : Type 0} (l x : ℕ) (v : View T) (b : Bool) → (cond b (with_note l v) (with_miss l v)).role ≡ v.role
by_probe l x v true = refl
by_probe l x v false = refl

module _ {K : Type 0} (hist : K → List Entry) (came : K → K → List ℕ → Type 0) (p : Layout K) (j : ℕ) (old : View K) where
  -- a step of the seat itself by which it doesn't get on
  pub own_step : (s s' : State (Option K) (View K)) (r : Rule hist came p s) (r' : Rule hist came p s') (k : Kind) (d : Does hist came p s s' j k) (v : View K) → d.me.0 ≡ v → gets_on k ≡ 0 → Finds s.words k → v.role ≡ Reader → Saw old (moment r) v
      → (d.next.0.role ≡ Reader) × Saw old (moment r') d.next.0
  own_step s s' r r' (looks_head x) d v me look finds is saw =
      let e : d.next.0 ≡ head_seen v x = ap (λ z. z.0) d.plays.0 ∙ ap (λ (z : View K). head_seen z x) me in
      let a = r.common.places.head_is_length in
      let b = r'.common.places.head_is_length in
      let same = ap (λ (z : List ℕ). get_or z 8 0) d.words in
      let ph = same_phase r'.phase r.phase _ _ _ _ _ _ (sym r'.common.places.owner_is ∙ ap (λ (z : List ℕ). get_or z 0 0) d.words ∙ r.common.places.owner_is) in
      (ap (λ (z : View K). z.role) e ∙ is, subst (Saw old (moment r')) (sym e) (head_saw old (moment r) (moment r') (omega arith) ph (λ t. ap (λ (z : List ℕ). cursor z t) d.words) v x (finds ∙ a) saw))
  own_step s s' r r' (looks_owner x) d v me look finds is saw =
      let e : d.next.0 ≡ owner_seen v x = ap (λ z. z.0) d.plays.1.0 ∙ ap (λ (z : View K). owner_seen z x) me in
      let a = r.common.places.head_is_length in
      let b = r'.common.places.head_is_length in
      let same = ap (λ (z : List ℕ). get_or z 8 0) d.words in
      let ph = same_phase r'.phase r.phase _ _ _ _ _ _ (sym r'.common.places.owner_is ∙ ap (λ (z : List ℕ). get_or z 0 0) d.words ∙ r.common.places.owner_is) in (
        ap (λ (z : View K). z.role) e ∙ is,
        subst (Saw old (moment r')) (sym e) (owner_saw old (moment r) (moment r') (omega arith) ph (λ t. ap (λ (z : List ℕ). cursor z t) d.words) v x
            (word_free x r.holder (length r.seating) (length r.log) r.phase (finds ∙ r.common.places.owner_is)) (word_closed x r.holder (length r.seating) (length r.log) r.phase (finds ∙ r.common.places.owner_is)) saw),
      )
  own_step s s' r r' (looks_cursor t x) d v me look finds is saw =
      let e : d.next.0 ≡ cursor_seen t v x = ap (λ z. z.0) (d.plays.1.1 t d.plays.0).0 ∙ ap (λ (z : View K). cursor_seen t z x) me in
      let a = r.common.places.head_is_length in
      let b = r'.common.places.head_is_length in
      let same = ap (λ (z : List ℕ). get_or z 8 0) d.words in
      let ph = same_phase r'.phase r.phase _ _ _ _ _ _ (sym r'.common.places.owner_is ∙ ap (λ (z : List ℕ). get_or z 0 0) d.words ∙ r.common.places.owner_is) in
      (ap (λ (z : View K). z.role) e ∙ is, subst (Saw old (moment r')) (sym e) (cursor_saw old (moment r) (moment r') (omega arith) ph (λ q. ap (λ (z : List ℕ). cursor z q) d.words) v t x finds saw))
  own_step s s' r r' (looks_spare x) d v me look finds is saw = absurd (let q : Reader ≡ Lead = sym is ∙ ap (λ (z : View K). z.role) (sym me) ∙ d.plays.0 in cc)
  own_step s s' r r' (probes l x) d v me look finds is saw =
      let e : d.next.0 ≡ probed_at l v x = ap (λ z. z.0) (d.plays.3 l d.plays.1 d.plays.2).0 ∙ ap (λ (z : View K). probed_at l z x) me in
      let a = r.common.places.head_is_length in
      let b = r'.common.places.head_is_length in
      let same = ap (λ (z : List ℕ). get_or z 8 0) d.words in
      let ph = same_phase r'.phase r.phase _ _ _ _ _ _ (sym r'.common.places.owner_is ∙ ap (λ (z : List ℕ). get_or z 0 0) d.words ∙ r.common.places.owner_is) in
      (ap (λ (z : View K). z.role) e ∙ by_probe l x v (low x == length v.seen) ∙ is, subst (Saw old (moment r')) (sym e) (probe_saw old (moment r) (moment r') (omega arith) ph (λ q. ap (λ (z : List ℕ). cursor z q) d.words) v l (low x == length v.seen) saw))
  own_step s s' r r' (reads x) d v me look finds is saw =
      let e : d.next.0 ≡ word_seen v x = ap (λ z. z.0) d.plays.1.0 ∙ ap (λ (z : View K). word_seen z x) me in
      let a = r.common.places.head_is_length in
      let b = r'.common.places.head_is_length in
      let same = ap (λ (z : List ℕ). get_or z 8 0) d.words in
      let ph = same_phase r'.phase r.phase _ _ _ _ _ _ (sym r'.common.places.owner_is ∙ ap (λ (z : List ℕ). get_or z 0 0) d.words ∙ r.common.places.owner_is) in
      (ap (λ (z : View K). z.role) e ∙ is, subst (Saw old (moment r')) (sym e) (kept_saw old (moment r) (moment r') (omega arith) ph (λ q. ap (λ (z : List ℕ). cursor z q) d.words) v (word_seen v x) refl refl refl refl refl refl refl refl refl saw))
  own_step s s' r r' (writes x) d v me look finds is saw = absurd (let q : Reader ≡ Lead = sym is ∙ ap (λ (z : View K). z.role) (sym me) ∙ d.plays.0 in cc)
  own_step s s' r r' sees d v me look finds is saw = absurd (omega arith)
  own_step s s' r r' publishes d v me look finds is saw = absurd (omega arith)
  own_step s s' r r' takes d v me look finds is saw = absurd (omega arith)
  own_step s s' r r' (gives_up x) d v me look finds is saw = absurd (omega arith)
  own_step s s' r r' leaves d v me look finds is saw = absurd (omega arith)
  own_step s s' r r' opens d v me look finds is saw = absurd (omega arith)
  own_step s s' r r' (hands x) d v me look finds is saw = absurd (omega arith)
  own_step s s' r r' moves d v me look finds is saw = absurd (omega arith)

  -- a step of another seat
  other_step : (s s' : State (Option K) (View K)) (r : Rule hist came p s) (r' : Rule hist came p s') (id : ℕ) (k : Kind) (d : Does hist came p s s' id k) (v : View K) → j ≢ id → get_elem? s.views j ≡ some v → v.role ≡ Reader → Saw old (moment r) v → Saw old (moment r') v
  other_step s s' r r' id k d v ne at is saw = ⊎_elim
      (λ (a : SawEvent old (moment r) v). inl record { can = (let c = a.can in let g = longer hist came p s s' r r' id k d j v ne at in omega arith); head = a.head })
      (λ (b : SawFree old (moment r) v ⊎ SawClosed old (moment r) v). inr (⊎_elim
      (λ (a : SawFree old (moment r) v). inl record { can = next_on hist came p s s' r r' id k d j v ne at is a.can; owner = a.owner; lower = a.lower })
      (λ (a : SawClosed old (moment r) v). inr record { can = over_on hist came p s s' r r' id k d j v ne at a.can; owner = a.owner })
      b))
      saw

  along : (xs : List (ℕ × Kind)) (s s' : State (Option K) (View K)) (r : Rule hist came p s) (v w : View K) → Trace hist came p xs s s' → GetsOnByNone j xs → get_elem? s.views j ≡ some v → v.role ≡ Reader → Saw old (moment r) v → get_elem? s'.views j ≡ some w → Waits old w → ⊥
  along [] s s' r v w t looks at is saw end waits =
      let same : v ≡ w = some-injective v w (sym at ∙ ap (λ (z : State (Option K) (View K)). get_elem? z.views j) (sym t) ∙ end) in
      no_wait old (moment r) v saw (subst (Waits old) (sym same) waits)
  along (x ∷ xs) s s' r v w t looks at is saw end waits = dite (ℕ_discrete j x.0)
      (λ e.
      let d : Does hist came p s t.0 j x.1 = subst (λ (z : ℕ). Does hist came p s t.0 z x.1) (sym e) t.2 in
      let me : d.me.0 ≡ v = some-injective d.me.0 v (sym d.at ∙ at) in
      let q = own_step s t.0 r t.1 x.1 d v me (looks.0 e) t.3 is saw in
      let at' : get_elem? t.0.views j ≡ some d.next.0 = ap (λ (z : List (View K)). get_elem? z j) d.views ∙ set_here s.views j d.next.0 (at_below s.views j v at) in
      along xs t.0 s' t.1 d.next.0 w t.4 looks.1 at' q.0 q.1 end waits)
      (λ ne. along xs t.0 s' t.1 v w t.4 looks.1 (at_after hist came p s t.0 r t.1 x.0 x.1 t.2 j v ne at) is (other_step s t.0 r t.1 x.0 x.1 t.2 v ne at is saw) end waits)

pub saw_now : {T : Type 0} (c : ℕ) (m : Moment) (v : View T) → CanGetOn c m v Reader → Saw v m v
saw_now c m v can = ⊎_elim
    (λ (e : HasEvent m v). inl record { can = e; head = inl refl })
    (λ (o : IsNextToLead m v ⊎ IsOver m v). inr (⊎_elim
    (λ (q : IsNextToLead m v). inl record { can = q; owner = inl refl; lower = inl refl })
    (λ (q : IsOver m v). inr record { can = q; owner = inl refl })
    o))
    can

pub saw_can : {T : Type 0} (c : ℕ) (m : Moment) (old v : View T) → Saw old m v → CanGetOn c m v Reader
saw_can c m old v saw = ⊎_elim (λ (a : SawEvent old m v). inl a.can) (λ (b : SawFree old m v ⊎ SawClosed old m v). inr (⊎_elim (λ (a : SawFree old m v). inl a.can) (λ (a : SawClosed old m v). inr a.can) b)) saw

pub no_reader_waits : {K : Type 0} (hist : K → List Entry) (came : K → K → List ℕ → Type 0) (p : Layout K) (xs : List (ℕ × Kind)) (s s' : State (Option K) (View K)) (r : Rule hist came p s) (j : ℕ) (v w : View K) → Trace hist came p xs s s' → GetsOnByNone j xs
    → get_elem? s.views j ≡ some v → v.role ≡ Reader → CanGetOn p.places (moment r) v Reader → get_elem? s'.views j ≡ some w → Waits v w → ⊥
no_reader_waits hist came p xs s s' r j v w t looks at is can end waits =
    along hist came p j v xs s s' r v w t looks at is (saw_now p.places (moment r) v can) end waits
