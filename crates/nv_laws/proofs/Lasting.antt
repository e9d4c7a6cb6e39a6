-- A seat that can get on still can, after a step of another.
use Rattle.std.proofs.Common.{◌≡◌, ◌≢◌, ℕ, zero, suc, ◌+◌, ◌<◌, ◌≤◌, ◌⊎◌, List, [], ◌∷◌, ◌++◌, length, get_or, set, sym, refl, ap, ◌∙◌, subst, inl, inr, ⊎_elim, le_trans, le_refl, lt_of_not-le, arith, get_or-set_other}
use mathlib.Core.Logic.{dite}
use native.Mathlib.Decide.{dec_le}
use mathlib.Core.Option.{some}
use lib.ListN.{get_elem?}
use Rattle.std.specs.Prelude.{Option}
use Rattle.atomic_table.specs.Table.{State, Me, Step}
use Rattle.atomic_table.proofs.Lists.{set_else}
use Rattle.nv_calls.specs.Calls.{Entry}
use Rattle.nv_words.proofs.SpellLaws.{prefix_length, prefix_same}
use Rattle.nv_room.specs.Header.{owner_index, head_index, cursor_index}
use Rattle.nv_ring.specs.Places.{FitsAll}
use Rattle.nv_room.specs.declared.view.View.{View}
use Rattle.nv_room.specs.declared.view.Layout.{Layout}
use Rattle.nv_room.specs.declared.view.Role.{Role}
use Rattle.nv_room.specs.declared.view.Role.TheVariants.{Reader, Lead, Opening, Leaving, Moving, Gone, Spent}
use Rattle.nv_room.specs.Placement.{Log, word_place}
use Rattle.nv_room.specs.Owner.{GONE, Phase, held, free, closed, owner_word}
use Rattle.nv_room.specs.Room.{cursor, InRole, IsLeading, Freed, Live, Leads, Rule}
use Rattle.nv_room.proofs.Placement.{place_after, fits_later}
use Rattle.nv_room.proofs.Seats.{apart_from}
use Rattle.nv_laws.specs.GetsOn.{moment, HasEvent, HasPlace, IsNextToLead, IsOver, CanGetOn}
use Rattle.nv_room.specs.Kinds.{Kind, looks_head, looks_owner, looks_cursor, looks_spare, probes, reads, writes, sees, publishes, takes, gives_up, leaves, opens, hands, moves}
use Rattle.nv_laws.specs.Plays.{Plays, written, Does}

-- a word that rises lowers none
pub set_up : (ws : List ℕ) (i x k : ℕ) → get_or ws i 0 ≤ x → get_or ws k 0 ≤ get_or (set ws i x) k 0
set_up [] i x k le = le_refl (get_or [] k 0)
set_up (w ∷ ws) zero x zero le = le
set_up (w ∷ ws) zero x (suc k) le = le_refl (get_or ws k 0)
set_up (w ∷ ws) (suc i) x zero le = le_refl w
set_up (w ∷ ws) (suc i) x (suc k) le = set_up ws i x k le

-- the owner word tells the phase
pub same_phase : (a b : Phase) (h o n h2 o2 n2 : ℕ) → owner_word a h o n ≡ owner_word b h2 o2 n2 → a ≡ b
same_phase held held h o n h2 o2 n2 e = refl
same_phase held free h o n h2 o2 n2 e = absurd (omega arith)
same_phase held closed h o n h2 o2 n2 e = absurd (omega arith)
same_phase free held h o n h2 o2 n2 e = absurd (omega arith)
same_phase free free h o n h2 o2 n2 e = refl
same_phase free closed h o n h2 o2 n2 e = absurd (omega arith)
same_phase closed held h o n h2 o2 n2 e = absurd (omega arith)
same_phase closed free h o n h2 o2 n2 e = absurd (omega arith)
same_phase closed closed h o n h2 o2 n2 e = refl

-- the words where neither the lead nor the one that takes it moves
record Quiet (ws ws' : List ℕ) : Type 0 where
  pub owner : get_or ws' owner_index 0 ≡ get_or ws owner_index 0
  pub head : get_or ws' head_index 0 ≡ get_or ws head_index 0
  pub cursors : (t : ℕ) → cursor ws t ≤ cursor ws' t

still : (ws : List ℕ) → Quiet ws ws
still ws = record { owner = refl; head = refl; cursors = λ t. le_refl (cursor ws t) }

risen : (ws : List ℕ) (i x : ℕ) → cursor ws i ≤ x → Quiet ws (set ws (cursor_index i) x)
risen ws i x le = record {
  owner = get_or-set_other ws (cursor_index i) owner_index x 0 (λ e. omega arith);
  head = get_or-set_other ws (cursor_index i) head_index x 0 (λ e. omega arith);
  cursors = λ t. set_up ws (cursor_index i) x (cursor_index t) le;
}

module _ {K : Type 0} (hist : K → List Entry) (came : K → K → List ℕ → Type 0) (p : Layout K) (s : State (Option K) (View K)) (r : Rule hist came p s) (u : View K) (id : ℕ) (at : get_elem? s.views id ≡ some u) where
  pub role_of : (role : Role) → u.role ≡ role → InRole p.stations p.places (moment r) u role
  role_of role is = subst (InRole p.stations p.places (moment r) u) is (r.each_seat id u at).in_role

  few : length r.log ≤ 500000000
  few = r.common.places.log_is_short

  short : length u.seen ≤ length r.log
  short = prefix_length u.seen r.log (r.each_seat id u at).seen_is_prefix

  none_leads : r.phase ≢ held → (role : Role) → u.role ≡ role → Leads role → ⊥
  none_leads ne Reader is l = absurd l
  none_leads ne Lead is l = ne (role_of Lead is).is_held
  none_leads ne Opening is l = ne (role_of Opening is).is_held
  none_leads ne Leaving is l = absurd l
  none_leads ne Moving is l = absurd l
  none_leads ne Gone is l = absurd l
  none_leads ne Spent is l = absurd l

  -- what a step of a seat that doesn't lead leaves of the words, unless it takes the lead
  quiet : (st : Step (Option K)) (free : List (ℕ × Option K)) (next : Me (Option K) (View K)) (k : Kind) → Plays hist came st (u, free) next k → (Leads u.role → ⊥) → (k ≡ takes → ⊥) → Quiet s.words (written p u s.words k)
  quiet st own next (looks_head x) q un nt = still s.words
  quiet st own next (looks_owner x) q un nt = still s.words
  quiet st own next (looks_cursor t x) q un nt = still s.words
  quiet st own next (looks_spare x) q un nt = still s.words
  quiet st own next (probes l x) q un nt = still s.words
  quiet st own next (reads x) q un nt = still s.words
  quiet st own next (writes x) q un nt = absurd (un (subst Leads (sym q.0) tt))
  quiet st own next sees q un nt = risen s.words u.station (length u.seen + 1) (let a = (role_of Reader q.0).cursor_is_length in omega arith)
  quiet st own next publishes q un nt = absurd (un (subst Leads (sym q.0) tt))
  quiet st own next takes q un nt = absurd (nt refl)
  quiet st own next (gives_up x) q un nt = absurd (un (subst Leads (sym q.0) tt))
  quiet st own next leaves q un nt = risen s.words u.station GONE (let a = few in let b = short in ⊎_elim
      (λ (e : u.role ≡ Reader). let c = (role_of Reader e).cursor_is_length in omega arith)
      (λ (e : u.role ≡ Leaving). let c = (role_of Leaving e).cursor_is_count in omega arith)
      q.0)
  quiet st own next opens q un nt = absurd (un (subst Leads (sym q.0) tt))
  quiet st own next (hands x) q un nt = absurd (un (subst Leads (sym q.0) tt))
  quiet st own next moves q un nt = risen s.words u.former GONE (let a = few in let c = (role_of Moving q.0).former_is_count in omega arith)

  -- no step takes an event away
  head_up : (st : Step (Option K)) (own : List (ℕ × Option K)) (next : Me (Option K) (View K)) (k : Kind) → Plays hist came st (u, own) next k → get_or s.words head_index 0 ≤ get_or (written p u s.words k) head_index 0
  head_up st own next (looks_head x) q = le_refl (get_or s.words head_index 0)
  head_up st own next (looks_owner x) q = le_refl (get_or s.words head_index 0)
  head_up st own next (looks_cursor t x) q = le_refl (get_or s.words head_index 0)
  head_up st own next (looks_spare x) q = le_refl (get_or s.words head_index 0)
  head_up st own next (probes l x) q = le_refl (get_or s.words head_index 0)
  head_up st own next (reads x) q = le_refl (get_or s.words head_index 0)
  head_up st own next (writes x) q =
      let log : Log = u.seen ++ (u.wrote ++ x ∷ []) ∷ [] in
      let i : ℕ = word_place p.stations p.places log (length u.seen) (length u.wrote) in
      let a = get_or-set_other s.words i head_index x 0 (λ e. place_after p.stations p.places log (length u.seen) (length u.wrote) head_index (omega arith) (sym e)) in
      omega arith
  head_up st own next sees q = let a = get_or-set_other s.words (cursor_index u.station) head_index (length u.seen + 1) 0 (λ e. omega arith) in omega arith
  head_up st own next publishes q = set_up s.words head_index (length u.seen + 1) head_index (let a = (role_of Lead q.0).seen_is_log in let b = r.common.places.head_is_length in omega arith)
  head_up st own next takes q = let a = get_or-set_other s.words owner_index head_index (owner_word held u.station u.opened (length u.seen)) 0 (λ e. omega arith) in omega arith
  head_up st own next (gives_up x) q = let a = get_or-set_other s.words owner_index head_index x 0 (λ e. omega arith) in omega arith
  head_up st own next leaves q = let a = get_or-set_other s.words (cursor_index u.station) head_index GONE 0 (λ e. omega arith) in omega arith
  head_up st own next opens q = let a = get_or-set_other s.words (cursor_index u.opened) head_index (length u.seen) 0 (λ e. omega arith) in omega arith
  head_up st own next (hands x) q = let a = get_or-set_other s.words owner_index head_index x 0 (λ e. omega arith) in omega arith
  head_up st own next moves q = let a = get_or-set_other s.words (cursor_index u.former) head_index GONE 0 (λ e. omega arith) in omega arith

  -- who takes the lead had noted that the room is free and all lower stations have left
  taker : (st : Step (Option K)) (own : List (ℕ × Option K)) (next : Me (Option K) (View K)) (k : Kind) → Plays hist came st (u, own) next k → k ≡ takes → (u.role ≡ Reader) × Freed (moment r) u.station u.opened (length u.seen)
  taker st own next k q is = let t = subst (Plays hist came st (u, own) next) is q in (t.0, (role_of Reader t.0).freed_stays (length u.seen) t.1)

module _ {K : Type 0} (hist : K → List Entry) (came : K → K → List ℕ → Type 0) (p : Layout K) (s s' : State (Option K) (View K)) (r : Rule hist came p s) (r' : Rule hist came p s') (id : ℕ) (k : Kind) (d : Does hist came p s s' id k) (j : ℕ) (v : View K) (ne : j ≢ id) (at : get_elem? s.views j ≡ some v) where
  abbrev u : View K
  u = d.me.0

  -- the other seat is as it was
  pub at_after : get_elem? s'.views j ≡ some v
  at_after = ap (λ (z : List (View K)). get_elem? z j) d.views ∙ set_else s.views id j d.next.0 ne ∙ at

  plain : (Leads u.role → ⊥) → (k ≡ takes → ⊥) → Quiet s.words s'.words
  plain un nt = subst (Quiet s.words) (sym d.words) (quiet hist came p s r u id d.at d.step d.me.1 d.next k d.plays un nt)

  pub longer : length r.log ≤ length r'.log
  longer =
      let a = r.common.places.head_is_length in
      let b = r'.common.places.head_is_length in
      let c : get_or s.words head_index 0 ≤ get_or s'.words head_index 0 = subst (λ (z : List ℕ). get_or s.words head_index 0 ≤ get_or z head_index 0) (sym d.words) (head_up hist came p s r u id d.at d.step d.me.1 d.next k d.plays) in
      omega arith

  same_length : Quiet s.words s'.words → length r'.log ≡ length r.log
  same_length q = let a = r.common.places.head_is_length in let b = r'.common.places.head_is_length in let c = q.head in omega arith

  phase_on : Quiet s.words s'.words → r'.phase ≡ r.phase
  phase_on q = same_phase r'.phase r.phase _ _ _ _ _ _ (sym r'.common.places.owner_is ∙ q.owner ∙ r.common.places.owner_is)

  free_held : r.phase ≡ free → r.phase ≡ held → ⊥
  free_held is h = let q : free ≡ held = sym is ∙ h in cc

  closed_held : r.phase ≡ closed → r.phase ≡ held → ⊥
  closed_held is h = let q : closed ≡ held = sym is ∙ h in cc

  closed_free : r.phase ≡ closed → r.phase ≡ free → ⊥
  closed_free is h = let q : closed ≡ free = sym is ∙ h in cc

  taken : k ≡ takes → (u.role ≡ Reader) × Freed (moment r) u.station u.opened (length u.seen)
  taken is = taker hist came p s r u id d.at d.step d.me.1 d.next k d.plays is

  -- a reader's cursor is a number
  counts : (w : View K) (i : ℕ) → get_elem? s.views i ≡ some w → w.role ≡ Reader → cursor s.words w.station < GONE
  counts w i here is =
      let a = (role_of hist came p s r w i here Reader is).cursor_is_length in
      let b = few hist came p s r w i here in
      let c = short hist came p s r w i here in
      omega arith

  -- of two readers that are next to lead one would be lower
  not_both : v.role ≡ Reader → IsNextToLead (moment r) v → k ≡ takes → ⊥
  not_both is q t =
      let f = taken t in
      let mine = counts v j at is in
      let its = counts u id d.at f.0 in
      let apart = apart_from hist came p s r j id v u at d.at ne (subst Live (sym f.0) tt) (subst Live (sym is) tt) in
      dite (dec_le v.station u.station)
      (λ le. let a = f.1.lower_gone v.station (dite (dec_le u.station v.station) (λ ge. absurd (apart (omega arith))) (λ lt. lt_of_not-le lt)) in omega arith)
      (λ gt. let a = q.lower_gone u.station (lt_of_not-le gt) in omega arith)

  pub next_on : v.role ≡ Reader → IsNextToLead (moment r) v → IsNextToLead (moment r') v
  next_on is q =
      let w = plain (none_leads hist came p s r u id d.at (free_held q.is_free) u.role refl) (not_both is q) in
      record {
        is_free = phase_on w ∙ q.is_free;
        all_seen = q.all_seen ∙ sym (same_length w);
        lower_gone = λ t lt. le_trans (q.lower_gone t lt) (w.cursors t);
      }

  pub over_on : IsOver (moment r) v → IsOver (moment r') v
  over_on q =
      let w = plain (none_leads hist came p s r u id d.at (closed_held q.is_closed) u.role refl) (λ t. closed_free q.is_closed (taken t).1.is_free) in
      record { is_closed = phase_on w ∙ q.is_closed; has_ended = q.has_ended }

  leads_holder : (w : View K) (i : ℕ) → get_elem? s.views i ≡ some w → (role : Role) → w.role ≡ role → Leads role → w.station ≡ r.holder
  leads_holder w i here Reader is l = absurd l
  leads_holder w i here Lead is l = (role_of hist came p s r w i here Lead is).is_holder
  leads_holder w i here Opening is l = (role_of hist came p s r w i here Opening is).is_holder
  leads_holder w i here Leaving is l = absurd l
  leads_holder w i here Moving is l = absurd l
  leads_holder w i here Gone is l = absurd l
  leads_holder w i here Spent is l = absurd l

  leads_live : (role : Role) → Leads role → Live role
  leads_live Reader l = absurd l
  leads_live Lead l = tt
  leads_live Opening l = tt
  leads_live Leaving l = absurd l
  leads_live Moving l = absurd l
  leads_live Gone l = absurd l
  leads_live Spent l = absurd l

  pub place_on : v.role ≡ Lead → HasPlace p.places (moment r) v → HasPlace p.places (moment r') v
  place_on is f =
      let now : IsLeading p.stations p.places (moment r) v.station v.opened v.seen v.wrote = role_of hist came p s r v j at Lead is in
      let then : IsLeading p.stations p.places (moment r') v.station v.opened v.seen v.wrote = role_of hist came p s' r' v j at_after Lead is in
      let alone : Leads u.role → ⊥ = λ l. apart_from hist came p s r j id v u at d.at ne (leads_live u.role l) (subst Live (sym is) tt) (now.is_holder ∙ sym (leads_holder u id d.at u.role refl l)) in
      let w = plain alone (λ t. free_held (taken t).1.is_free now.is_held) in
      let was : v.seen ≡ r.log = prefix_same v.seen r.log now.seen_is_log (r.each_seat j v at).seen_is_prefix in
      let same : v.seen ≡ r'.log = prefix_same v.seen r'.log then.seen_is_log (r'.each_seat j v at_after).seen_is_prefix in
      λ t other inside. subst (λ (z : Log). FitsAll p.places z (cursor s'.words t)) (sym was ∙ same)
      (λ e small. fits_later p.places r.log e (cursor s.words t) (cursor s'.words t) (w.cursors t) (f t other (let a = now.opened_is in let b = then.opened_is in omega arith) e small))

  by_role : (role : Role) → v.role ≡ role → CanGetOn p.places (moment r) v role → CanGetOn p.places (moment r') v role
  by_role Reader is c = ⊎_elim
      (λ (e : HasEvent (moment r) v). inl (let a = longer in omega arith))
      (λ (o : IsNextToLead (moment r) v ⊎ IsOver (moment r) v). inr (⊎_elim
      (λ (q : IsNextToLead (moment r) v). inl (next_on is q))
      (λ (q : IsOver (moment r) v). inr (over_on q))
      o))
      c
  by_role Lead is c = place_on is c
  by_role Opening is c = tt
  by_role Leaving is c = tt
  by_role Moving is c = tt
  by_role Gone is c = absurd c
  by_role Spent is c = absurd c

  pub lasts : CanGetOn p.places (moment r) v v.role → (get_elem? s'.views j ≡ some v) × CanGetOn p.places (moment r') v v.role
  lasts c = (at_after, by_role v.role refl c)
