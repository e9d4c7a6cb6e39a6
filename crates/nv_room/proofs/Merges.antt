-- What the places tell of the order of events stays, whatever a seat does.
use Rattle.std.proofs.Common.{◌≡◌, ℕ, ◌%◌, ◌<◌, ◌≢◌, List, [], ◌∷◌, ◌++◌, length, get_or, set, sym, refl, ap, ◌∙◌, subst, inl, inr, ⊎_elim, mod-lt, lt_of_not-le, arith, length-append, get_or-set_other, get_or-set_same}
use mathlib.Core.Logic.{dite}
use native.Mathlib.Decide.{ℕ_discrete, dec_le}
use mathlib.Core.Option.{some, some-ne-none}
use lib.ListN.{get_elem?}
use Rattle.std.specs.Prelude.{Option, None}
use Rattle.atomic_table.proofs.Lists.{at_set}
use Rattle.nv_words.specs.Spelling.{low}
use Rattle.nv_room.specs.Logs.{lane, earlier}
use Rattle.nv_room.proofs.LogLaws.{lane_stays}
use Rattle.nv_room.specs.Stamps.{Stamp, Stamps}
use Rattle.nv_room.proofs.StampLaws.{stamps_more, stamps_second}
use Rattle.nv_room.specs.declared.view.View.{View}
use Rattle.nv_room.specs.declared.view.Role.TheVariants.{Reader, Lead}
use Rattle.nv_room.specs.Placement.{Log, header, slot, word_place}
use Rattle.nv_room.specs.Owner.{Phase, held}
use Rattle.nv_room.specs.Room.{Live, Leads, Notes, Merge, stamp_word}
use Rattle.nv_room.proofs.Lists.{at_end}
use Rattle.nv_room.proofs.Placement.{slot_after, slots_apart, place_early, second_apart}

-- a word before the places
pub second_kept : (n c k x : ℕ) (ws : List ℕ) → k < header n → (l j : ℕ) → stamp_word n c (set ws k x) l j ≡ stamp_word n c ws l j
second_kept n c k x ws h l j = get_or-set_other ws k (slot n c l j 1) x 0 (slot_after n c l j 1 k h)

pub stamps_same : (c : ℕ) (f g : ℕ → ℕ → ℕ) (log : Log) (w : List ℕ) → ((l k : ℕ) → g l k ≡ f l k) → Stamps c f log w → Stamps c g log w
stamps_same c f g log w same s l k a b = subst (λ (z : ℕ). Stamp log w l (low z)) (sym (same l k)) (s l k a b)

pub notes_none : (log seen : Log) (read : List ℕ) → read ≡ [] → Notes log seen None [] read
notes_none log seen read unread = record { noted_is_next = λ l e. cc; missed_is_not = λ l h. absurd (some-ne-none l (sym h.1)); unnoted_is_unread = λ e. unread }

pub notes_stay : (log more seen : Log) (noted : Option ℕ) (missed read : List ℕ) → Notes log seen noted missed read → Notes (log ++ more) seen noted missed read
notes_stay log more seen noted missed read k = let n = length-append log more in record {
  noted_is_next = λ l e. let a = k.noted_is_next l e in ((let q = a.0 in omega arith), a.1 ∙ sym (lane_stays log more (length seen) a.0));
  missed_is_not = λ l h. let a = k.missed_is_not l h in ((let q = a.0 in omega arith), λ e. a.1 (e ∙ lane_stays log more (length seen) a.0));
  unnoted_is_unread = k.unnoted_is_unread;
}

module _ {T : Type 0} (n c : ℕ) (views : List (View T)) (id : ℕ) (v w : View T) (at : get_elem? views id ≡ some v) where
  -- the view of the seat id changes, and no word of a place
  pub merge_turned : (ws ws' : List ℕ) (log : Log) (phase : Phase) {asked : List ℕ} (m : Merge n c ws log phase asked views) → ((l k : ℕ) → stamp_word n c ws' l k ≡ stamp_word n c ws l k)
      → (Leads w.role → (w.wrote ≡ m.writing) × (w.asked ≡ asked)) → (w.role ≡ Reader → Notes log w.seen w.noted w.missed w.read) → (Live w.role → length w.floors ≡ n) → Merge n c ws' log phase asked (set views id w)
  merge_turned ws ws' log phase m same leads reads wide = record {
    writing = m.writing;
    stamps = stamps_same c (stamp_word n c ws) (stamp_word n c ws') log m.writing same m.stamps;
    lead_tells = λ j u e role. ⊎_elim
        (λ (y : (j ≡ id) × (w ≡ u)). let own = leads (subst (λ (z : View T). Leads z.role) (sym y.1) role) in (ap (λ (z : View T). z.wrote) (sym y.1) ∙ own.0, ap (λ (z : View T). z.asked) (sym y.1) ∙ own.1))
        (λ (y : (j ≢ id) × (get_elem? views j ≡ some u)). m.lead_tells j u y.1 role)
        (at_set views id j w u e);
    not_held = m.not_held;
    notes = λ j u e role. ⊎_elim
        (λ (y : (j ≡ id) × (w ≡ u)). subst (λ (z : View T). Notes log z.seen z.noted z.missed z.read) y.1 (reads (ap (λ (z : View T). z.role) y.1 ∙ role)))
        (λ (y : (j ≢ id) × (get_elem? views j ≡ some u)). m.notes j u y.1 role)
        (at_set views id j w u e);
    floors_wide = λ j u e l. ⊎_elim
        (λ (y : (j ≡ id) × (w ≡ u)). ap (λ (z : View T). length z.floors) (sym y.1) ∙ wide (subst (λ (z : View T). Live z.role) (sym y.1) l))
        (λ (y : (j ≢ id) × (get_elem? views j ≡ some u)). m.floors_wide j u y.1 l)
        (at_set views id j w u e);
  }

  -- the lead writes: `w` is its new view, and no other seat leads
  pub merge_written : (ws ws' : List ℕ) (log log' : Log) (phase : Phase) {asked asked' : List ℕ} (m : Merge n c ws log phase asked views) (writing : List ℕ) → w.role ≡ Lead → w.wrote ≡ writing → w.asked ≡ asked' → phase ≡ held → length w.floors ≡ n
      → ((j : ℕ) (u : View T) → j ≢ id → get_elem? views j ≡ some u → ¬ Leads u.role) → Stamps c (stamp_word n c ws') log' writing
      → ((seen : Log) (noted : Option ℕ) (missed read : List ℕ) → Notes log seen noted missed read → Notes log' seen noted missed read) → Merge n c ws' log' phase asked' (set views id w)
  merge_written ws ws' log log' phase m writing role is asks leads wide alone stamps on = record {
    writing = writing;
    stamps = stamps;
    lead_tells = λ j u e lead. ⊎_elim
        (λ (y : (j ≡ id) × (w ≡ u)). (ap (λ (z : View T). z.wrote) (sym y.1) ∙ is, ap (λ (z : View T). z.asked) (sym y.1) ∙ asks))
        (λ (y : (j ≢ id) × (get_elem? views j ≡ some u)). absurd (alone j u y.0 y.1 lead))
        (at_set views id j w u e);
    not_held = λ ne. absurd (ne leads);
    notes = λ j u e reader. ⊎_elim
        (λ (y : (j ≡ id) × (w ≡ u)). absurd (let q : Lead ≡ Reader = sym role ∙ ap (λ (z : View T). z.role) y.1 ∙ reader in cc))
        (λ (y : (j ≢ id) × (get_elem? views j ≡ some u)). on u.seen u.noted u.missed u.read (m.notes j u y.1 reader))
        (at_set views id j w u e);
    floors_wide = λ j u e l. ⊎_elim
        (λ (y : (j ≡ id) × (w ≡ u)). ap (λ (z : View T). length z.floors) (sym y.1) ∙ wide)
        (λ (y : (j ≢ id) × (get_elem? views j ≡ some u)). m.floors_wide j u y.1 l)
        (at_set views id j w u e);
  }

-- the lead comes or goes while nothing stands at head
pub merge_phase : {T : Type 0} (n c : ℕ) (ws : List ℕ) (log : Log) (phase phase' : Phase) {asked : List ℕ} (views : List (View T)) (m : Merge n c ws log phase asked views) → m.writing ≡ [] → Merge n c ws log phase' asked views
merge_phase n c ws log phase phase' views m e = record {
  writing = [];
  stamps = subst (Stamps c (stamp_word n c ws) log) e m.stamps;
  lead_tells = λ j v at role. let x = m.lead_tells j v at role in (x.0 ∙ e, x.1);
  not_held = λ _. refl;
  notes = m.notes;
  floors_wide = m.floors_wide;
}

pub merged_quiet : {T : Type 0} (n c : ℕ) (ws : List ℕ) (log : Log) (phase phase' : Phase) {asked : List ℕ} (views : List (View T)) (m : Merge n c ws log phase asked views) (e : m.writing ≡ []) → (merge_phase n c ws log phase phase' views m e).writing ≡ []
unfolding merge_phase
merged_quiet n c ws log phase phase' views m e = refl

-- no seat leads, so that none tells what was asked for
pub merge_asked : {T : Type 0} (n c : ℕ) (ws : List ℕ) (log : Log) (phase : Phase) {asked asked' : List ℕ} (views : List (View T)) → Merge n c ws log phase asked views
    → ((j : ℕ) (u : View T) → get_elem? views j ≡ some u → ¬ Leads u.role) → Merge n c ws log phase asked' views
merge_asked n c ws log phase views m none = record {
  writing = m.writing;
  stamps = m.stamps;
  lead_tells = λ j u at role. absurd (none j u at role);
  not_held = m.not_held;
  notes = m.notes;
  floors_wide = m.floors_wide;
}

-- one more seat, which reads
pub merge_cut : {T : Type 0} (n c : ℕ) (ws : List ℕ) (log : Log) (phase : Phase) {asked : List ℕ} (views : List (View T)) (w : View T) → Merge n c ws log phase asked views → w.role ≡ Reader
    → Notes log w.seen w.noted w.missed w.read → length w.floors ≡ n → Merge n c ws log phase asked (views ++ w ∷ [])
merge_cut {T} n c ws log phase views w m role notes wide = record {
  writing = m.writing;
  stamps = m.stamps;
  lead_tells = λ j u e lead. ⊎_elim (λ (q : get_elem? views j ≡ some u). m.lead_tells j u q lead) (λ (q : (j ≡ length views) × (w ≡ u)). absurd (subst Leads (ap (λ (z : View T). z.role) (sym q.1) ∙ role) lead)) (at_end views w u j e);
  not_held = m.not_held;
  notes = λ j u e reader. ⊎_elim (λ (q : get_elem? views j ≡ some u). m.notes j u q reader) (λ (q : (j ≡ length views) × (w ≡ u)). subst (λ (z : View T). Notes log z.seen z.noted z.missed z.read) q.1 notes) (at_end views w u j e);
  floors_wide = λ j u e l. ⊎_elim (λ (q : get_elem? views j ≡ some u). m.floors_wide j u q l) (λ (q : (j ≡ length views) × (w ≡ u)). ap (λ (z : View T). length z.floors) (sym q.1) ∙ wide) (at_end views w u j e);
}

-- the stamps after one more word of the event at head
pub stamps_written : (n c : ℕ) (ws : List ℕ) (log : Log) (w : List ℕ) (k x : ℕ) → 0 < c → k < length ws → k ≡ word_place n c (log ++ (w ++ x ∷ []) ∷ []) (length log) (length w) → (length w ≡ 1 → low x ≡ length log)
    → Stamps c (stamp_word n c ws) log w → Stamps c (stamp_word n c (set ws k x)) log (w ++ x ∷ [])
stamps_written n c ws log w k x pos here is number s =
    let log' : Log = log ++ (w ++ x ∷ []) ∷ [] in
    let h : ℕ = length log in
    let top : ℕ = lane log' h in
    let p : ℕ = earlier log' h % c in
    let inside : p < c = mod-lt (earlier log' h) pos in
    let early : length w < 6 → k ≡ slot n c top p (length w) = λ l. is ∙ place_early n c log' h (length w) l in
    dite (ℕ_discrete (length w) 1)
    (λ one. stamps_second c (stamp_word n c ws) (stamp_word n c (set ws k x)) log w x one s (λ l j a b. dite (ℕ_discrete (slot n c l j 1) k)
    (λ e. let q = slots_apart n c l j 1 top p (length w) b inside (omega arith) (omega arith) (e ∙ early (omega arith)) in inr (q.0, ap low (ap (λ (z : ℕ). get_or (set ws k x) z 0) e ∙ get_or-set_same ws k x 0 here) ∙ number one))
    (λ ne. inl (get_or-set_other ws k (slot n c l j 1) x 0 ne))))
    (λ other. λ l j a b. subst (λ (z : ℕ). Stamp log (w ++ x ∷ []) l (low z))
    (sym (get_or-set_other ws k (slot n c l j 1) x 0 (λ e. dite (dec_le 6 (length w))
    (λ six. second_apart n c l j log' h (length w) a b six (e ∙ is))
    (λ few. let lt = lt_of_not-le few in let q = slots_apart n c l j 1 top p (length w) b inside (omega arith) lt (e ∙ early lt) in other (sym q.2)))))
    (stamps_more c (stamp_word n c ws) log w x s l j a b))
