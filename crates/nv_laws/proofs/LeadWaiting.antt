-- A lead that has a place doesn't wait.
use Rattle.std.proofs.Common.{◌≡◌, ◌≢◌, ℕ, ◌+◌, ◌<◌, ◌≤◌, ◌⊎◌, List, [], ◌∷◌, ◌++◌, length, replicate, le_refl, get_or-set_other, sym, refl, ap, ◌∙◌, subst, inl, inr, ⊎_elim, arith}
use mathlib.Core.Logic.{dite}
use native.Mathlib.Decide.{ℕ_discrete}
use mathlib.Core.Option.{some, some-injective}
use lib.ListN.{get_elem?}
use Rattle.std.specs.Prelude.{Option}
use Rattle.atomic_table.specs.Table.{State}
use Rattle.atomic_table.proofs.Lists.{set_here}
use Rattle.nv_calls.specs.Calls.{Entry}
use Rattle.nv_words.proofs.SpellLaws.{prefix_same}
use Rattle.nv_ring.specs.Places.{FitsAll, IsFull}
use Rattle.nv_room.specs.declared.view.View.{View}
use Rattle.nv_room.specs.declared.view.Layout.{Layout}
use Rattle.nv_room.specs.declared.view.Role.TheVariants.{Reader, Lead}
use Rattle.nv_room.specs.Placement.{Log, word_place, pool_chunks, chunks_from}
use Rattle.nv_room.specs.Header.{cursor_index}
use Rattle.nv_room.proofs.Placement.{place_after, fits_later}
use Rattle.nv_room.proofs.Seats.{open_near}
use Rattle.nv_room.specs.Room.{cursor, IsLeading, Rule}
use Rattle.nv_room.specs.Steps.{head_seen, cursor_seen, word_put}
use Rattle.nv_laws.specs.GetsOn.{moment, HasPlace, CanGetOn}
use Rattle.nv_room.specs.Kinds.{Kind, looks_head, looks_owner, looks_cursor, looks_spare, probes, reads, writes, sees, publishes, takes, gives_up, leaves, opens, hands, moves}
use Rattle.nv_laws.specs.Steps.{gets_on}
use Rattle.nv_laws.specs.Plays.{written, Does}
use Rattle.nv_laws.specs.Traces.{Finds, Trace, GetsOnByNone, LeadWaits}
use Rattle.nv_laws.proofs.Lists.{at_below}
use Rattle.nv_laws.proofs.Lasting.{role_of, at_after, place_on}

-- where any next event fits, the ring isn't full
fits_not_full : (c : ℕ) (log : Log) (from : ℕ) → FitsAll c log from → IsFull c log from → ⊥
fits_not_full c log from fits full =
    let f = fits (replicate 518 0) (omega arith) in
    let near = f.window in
    let few = f.chunks_are_few in
    ⊎_elim (λ (a : from + c ≤ length log). absurd (omega arith)) (λ (a : pool_chunks c < chunks_from log from + 8). absurd (omega arith)) full

module _ {K : Type 0} (hist : K → List Entry) (came : K → K → List ℕ → Type 0) (p : Layout K) (j : ℕ) (old : View K) where
  -- it is at its station still, and since then it looked at no other open station's cursor last that keeps it from its place
  pub record SawPlace (s : State (Option K) (View K)) (r : Rule hist came p s) (v : View K) : Type 0 where
    pub can : HasPlace p.places (moment r) v
    pub station : v.station ≡ old.station
    pub opened : v.opened ≡ old.opened
    pub seen : v.seen ≡ old.seen
    pub cursor : (v.cursor_looks ≡ old.cursor_looks) ⊎ (v.cursor_of ≢ v.station → v.cursor_of < v.opened → FitsAll p.places v.seen v.cursor_last)

  no_wait : (s : State (Option K) (View K)) (r : Rule hist came p s) (v : View K) → SawPlace s r v → LeadWaits p.places old v → ⊥
  no_wait s r v saw w = let up = w.looked in let inside = w.is_open in let opened = saw.opened in ⊎_elim
      (λ (e : v.cursor_looks ≡ old.cursor_looks). absurd (omega arith))
      (λ (f : v.cursor_of ≢ v.station → v.cursor_of < v.opened → FitsAll p.places v.seen v.cursor_last). fits_not_full p.places old.seen v.cursor_last
      (subst (λ (z : Log). FitsAll p.places z v.cursor_last) saw.seen (f (λ e. w.other (e ∙ saw.station)) (omega arith))) w.full)
      saw.cursor

  leading : (s : State (Option K) (View K)) (r : Rule hist came p s) (v : View K) → get_elem? s.views j ≡ some v → v.role ≡ Lead → IsLeading p.stations p.places (moment r) v.station v.opened v.seen v.wrote
  leading s r v at is = role_of hist came p s r v j at Lead is

  whole : (s : State (Option K) (View K)) (r : Rule hist came p s) (v : View K) → get_elem? s.views j ≡ some v → v.role ≡ Lead → v.seen ≡ r.log
  whole s r v at is = prefix_same v.seen r.log (leading s r v at is).seen_is_log (r.each_seat j v at).seen_is_prefix

  -- a word of a place is no cursor
  place_kept : (ws : List ℕ) (u : View K) (x t : ℕ) → t < p.stations → cursor ws t ≤ cursor (written p u ws (writes x)) t
  place_kept ws u x t near =
      let log : Log = u.seen ++ (u.wrote ++ x ∷ []) ∷ [] in
      let i : ℕ = word_place p.stations p.places log (length u.seen) (length u.wrote) in
      let a = get_or-set_other ws i (cursor_index t) x 0 (λ e. place_after p.stations p.places log (length u.seen) (length u.wrote) (cursor_index t) (omega arith) (sym e)) in
      omega arith

  -- a step of its own by which no cursor falls
  module _ (s s' : State (Option K) (View K)) (r : Rule hist came p s) (r' : Rule hist came p s') (v w : View K) (up : (t : ℕ) → t < p.stations → cursor s.words t ≤ cursor s'.words t) (at : get_elem? s.views j ≡ some v) (at' : get_elem? s'.views j ≡ some w) (is : v.role ≡ Lead) (is' : w.role ≡ Lead)
      (station : w.station ≡ v.station) (opened : w.opened ≡ v.opened) (seen : w.seen ≡ v.seen) (saw : SawPlace s r v) where
    can_still : HasPlace p.places (moment r') w
    can_still =
        let now = leading s r v at is in
        let then = leading s' r' w at' is' in
        let a = now.opened_is in
        let b = then.opened_is in
        let was = whole s r v at is in
        let same = whole s' r' w at' is' in
        let near = open_near hist came p s r in
        λ u other inside. subst (λ (z : Log). FitsAll p.places z (cursor s'.words u)) (sym was ∙ sym seen ∙ same)
        (λ e small. fits_later p.places r.log e (cursor s.words u) (cursor s'.words u) (up u (omega arith)) (saw.can u (λ q. other (q ∙ sym station)) (omega arith) e small))

    -- with its look at a cursor
    looked_saw : (t x : ℕ) → w.cursor_of ≡ t → w.cursor_last ≡ x → x ≡ cursor s.words t → SawPlace s' r' w
    looked_saw t x of last finds =
        let now = leading s r v at is in
        let a = now.opened_is in
        let was = whole s r v at is in
        record {
          can = can_still;
          station = station ∙ saw.station;
          opened = opened ∙ saw.opened;
          seen = seen ∙ saw.seen;
          cursor = inr (λ other inside. subst (λ (z : Log). FitsAll p.places z w.cursor_last) (sym was ∙ sym seen) (subst (λ (z : ℕ). FitsAll p.places r.log z) (sym (last ∙ finds)) (saw.can t (λ q. other (of ∙ q ∙ sym station)) (omega arith))));
        }

    -- or without
    kept_saw : w.cursor_looks ≡ v.cursor_looks → w.cursor_of ≡ v.cursor_of → w.cursor_last ≡ v.cursor_last → SawPlace s' r' w
    kept_saw looks of last = record {
      can = can_still;
      station = station ∙ saw.station;
      opened = opened ∙ saw.opened;
      seen = seen ∙ saw.seen;
      cursor = ⊎_elim (λ (e : v.cursor_looks ≡ old.cursor_looks). inl (looks ∙ e))
          (λ (f : v.cursor_of ≢ v.station → v.cursor_of < v.opened → FitsAll p.places v.seen v.cursor_last). inr (λ other inside. subst (λ (z : Log). FitsAll p.places z w.cursor_last) (sym seen) (subst (λ (z : ℕ). FitsAll p.places v.seen z) (sym last) (f (λ q. other (of ∙ q ∙ sym station)) (omega arith)))))
          saw.cursor;
    }

  pub own_step : (s s' : State (Option K) (View K)) (r : Rule hist came p s) (r' : Rule hist came p s') (k : Kind) (d : Does hist came p s s' j k) (v : View K) → d.me.0 ≡ v → get_elem? s.views j ≡ some v → get_elem? s'.views j ≡ some d.next.0 → gets_on k ≡ 0 → Finds s.words k → v.role ≡ Lead → SawPlace s r v
      → (d.next.0.role ≡ Lead) × SawPlace s' r' d.next.0
  own_step s s' r r' (looks_head x) d v me at at' look finds is saw =
      let e : d.next.0 ≡ head_seen v x = ap (λ z. z.0) d.plays.0 ∙ ap (λ (z : View K). head_seen z x) me in
      let at'' : get_elem? s'.views j ≡ some (head_seen v x) = subst (λ (z : View K). get_elem? s'.views j ≡ some z) e at' in
      (ap (λ (z : View K). z.role) e ∙ is, subst (SawPlace s' r') (sym e) (kept_saw s s' r r' v (head_seen v x) (λ q _. subst (λ (z : List ℕ). cursor s.words q ≤ cursor z q) (sym d.words) (le_refl (cursor s.words q))) at at'' is is refl refl refl saw refl refl refl))
  own_step s s' r r' (looks_owner x) d v me at at' look finds is saw = absurd (let q : Lead ≡ Reader = sym is ∙ ap (λ (z : View K). z.role) (sym me) ∙ d.plays.0 in cc)
  own_step s s' r r' (looks_cursor t x) d v me at at' look finds is saw =
      let e : d.next.0 ≡ cursor_seen t v x = ap (λ z. z.0) (d.plays.1.1 t d.plays.0).0 ∙ ap (λ (z : View K). cursor_seen t z x) me in
      let at'' : get_elem? s'.views j ≡ some (cursor_seen t v x) = subst (λ (z : View K). get_elem? s'.views j ≡ some z) e at' in
      (ap (λ (z : View K). z.role) e ∙ is, subst (SawPlace s' r') (sym e) (looked_saw s s' r r' v (cursor_seen t v x) (λ q _. subst (λ (z : List ℕ). cursor s.words q ≤ cursor z q) (sym d.words) (le_refl (cursor s.words q))) at at'' is is refl refl refl saw t x refl refl finds))
  own_step s s' r r' (looks_spare x) d v me at at' look finds is saw =
      let e : d.next.0 ≡ v = ap (λ z. z.0) d.plays.1.0 ∙ me in
      let at'' : get_elem? s'.views j ≡ some (v) = subst (λ (z : View K). get_elem? s'.views j ≡ some z) e at' in
      (ap (λ (z : View K). z.role) e ∙ is, subst (SawPlace s' r') (sym e) (kept_saw s s' r r' v (v) (λ q _. subst (λ (z : List ℕ). cursor s.words q ≤ cursor z q) (sym d.words) (le_refl (cursor s.words q))) at at'' is is refl refl refl saw refl refl refl))
  own_step s s' r r' (probes l x) d v me at at' look finds is saw = absurd (let q : Lead ≡ Reader = sym is ∙ ap (λ (z : View K). z.role) (sym me) ∙ d.plays.0 in cc)
  own_step s s' r r' (reads x) d v me at at' look finds is saw = absurd (let q : Lead ≡ Reader = sym is ∙ ap (λ (z : View K). z.role) (sym me) ∙ d.plays.0 in cc)
  own_step s s' r r' (writes x) d v me at at' look finds is saw =
      let e : d.next.0 ≡ word_put v x = ap (λ z. z.0) d.plays.1 ∙ ap (λ (z : View K). word_put z x) me in
      let at'' : get_elem? s'.views j ≡ some (word_put v x) = subst (λ (z : View K). get_elem? s'.views j ≡ some z) e at' in
      (ap (λ (z : View K). z.role) e ∙ is, subst (SawPlace s' r') (sym e) (kept_saw s s' r r' v (word_put v x) (λ q near. subst (λ (z : List ℕ). cursor s.words q ≤ cursor z q) (sym d.words) (place_kept s.words d.me.0 x q near)) at at'' is is refl refl refl saw refl refl refl))
  own_step s s' r r' sees d v me at at' look finds is saw = absurd (omega arith)
  own_step s s' r r' publishes d v me at at' look finds is saw = absurd (omega arith)
  own_step s s' r r' takes d v me at at' look finds is saw = absurd (omega arith)
  own_step s s' r r' (gives_up x) d v me at at' look finds is saw = absurd (omega arith)
  own_step s s' r r' leaves d v me at at' look finds is saw = absurd (omega arith)
  own_step s s' r r' opens d v me at at' look finds is saw = absurd (omega arith)
  own_step s s' r r' (hands x) d v me at at' look finds is saw = absurd (omega arith)
  own_step s s' r r' moves d v me at at' look finds is saw = absurd (omega arith)

  along : (xs : List (ℕ × Kind)) (s s' : State (Option K) (View K)) (r : Rule hist came p s) (v w : View K) → Trace hist came p xs s s' → GetsOnByNone j xs → get_elem? s.views j ≡ some v → v.role ≡ Lead → SawPlace s r v → get_elem? s'.views j ≡ some w → LeadWaits p.places old w → ⊥
  along [] s s' r v w t looks at is saw end waits =
      let same : v ≡ w = some-injective v w (sym at ∙ ap (λ (z : State (Option K) (View K)). get_elem? z.views j) (sym t) ∙ end) in
      no_wait s r v saw (subst (LeadWaits p.places old) (sym same) waits)
  along (x ∷ xs) s s' r v w t looks at is saw end waits = dite (ℕ_discrete j x.0)
      (λ e.
      let d : Does hist came p s t.0 j x.1 = subst (λ (z : ℕ). Does hist came p s t.0 z x.1) (sym e) t.2 in
      let me : d.me.0 ≡ v = some-injective d.me.0 v (sym d.at ∙ at) in
      let at' : get_elem? t.0.views j ≡ some d.next.0 = ap (λ (z : List (View K)). get_elem? z j) d.views ∙ set_here s.views j d.next.0 (at_below s.views j v at) in
      let q = own_step s t.0 r t.1 x.1 d v me at at' (looks.0 e) t.3 is saw in
      along xs t.0 s' t.1 d.next.0 w t.4 looks.1 at' q.0 q.1 end waits)
      (λ ne. along xs t.0 s' t.1 v w t.4 looks.1 (at_after hist came p s t.0 r t.1 x.0 x.1 t.2 j v ne at) is
      record { can = place_on hist came p s t.0 r t.1 x.0 x.1 t.2 j v ne at is saw.can; station = saw.station; opened = saw.opened; seen = saw.seen; cursor = saw.cursor } end waits)

pub place_now : {K : Type 0} (hist : K → List Entry) (came : K → K → List ℕ → Type 0) (p : Layout K) (j : ℕ) (s : State (Option K) (View K)) (r : Rule hist came p s) (v : View K) → HasPlace p.places (moment r) v → SawPlace hist came p j v s r v
place_now hist came p j s r v can = record { can = can; station = refl; opened = refl; seen = refl; cursor = inl refl }

pub no_lead_waits : {K : Type 0} (hist : K → List Entry) (came : K → K → List ℕ → Type 0) (p : Layout K) (xs : List (ℕ × Kind)) (s s' : State (Option K) (View K)) (r : Rule hist came p s) (j : ℕ) (v w : View K) → Trace hist came p xs s s' → GetsOnByNone j xs
    → get_elem? s.views j ≡ some v → v.role ≡ Lead → CanGetOn p.places (moment r) v Lead → get_elem? s'.views j ≡ some w → LeadWaits p.places v w → ⊥
no_lead_waits hist came p xs s s' r j v w t looks at is can end waits = along hist came p j v xs s s' r v w t looks at is (place_now hist came p j s r v can) end waits
