-- Probing a lane keeps the rule.
use Rattle.std.proofs.Common.{◌≡◌, ℕ, ◌<◌, ◌≤◌, ◌≢◌, Bool, true, false, cond, List, [], ◌∷◌, ◌++◌, length, take, get_or, set, sym, refl, ap, ◌∙◌, subst, ⊎_elim, le_refl, mod-lt, arith}
use Rattle.std.proofs.lemmas.List.{length-map}
use Rattle.std.proofs.lemmas.Bool.{eqb-true, eqb-false}
use mathlib.Core.Path.{Path}
use mathlib.Core.Option.{none, some, some-injective}
use lib.ListN.{get_elem?}
use Rattle.std.specs.Prelude.{Option, Some, None, ◌==◌}
use Rattle.std.proofs.lemmas.Option.{same_Some}
use Rattle.atomic_table.specs.Table.{State, Me, step, keeps, Allows}
use Rattle.atomic_table.proofs.Lists.{at_map}
use Rattle.nv_calls.specs.Calls.{Entry}
use Rattle.nv_calls.specs.Logs.{IsLawful}
use Rattle.nv_calls.proofs.LogLaws.{lawful_range, slice_some}
use Rattle.nv_words.specs.Spelling.{low, spell}
use Rattle.nv_room.specs.Logs.{entries, lanes_after, lane}
use Rattle.nv_room.proofs.LogLaws.{lane_below_8, entries_spelt}
use Rattle.nv_room.specs.Stamps.{IsStamped, found_in_lane, Lives}
use Rattle.nv_room.proofs.StampLaws.{number_word}
use Rattle.nv_room.proofs.MergeLaws.{probe_hits, probe_misses, next_found, next_lives}
use Rattle.nv_room.specs.declared.view.View.{View}
use Rattle.nv_room.specs.declared.view.Layout.{Layout}
use Rattle.nv_room.specs.declared.view.Role.TheVariants.{Reader}
use Rattle.nv_room.specs.Placement.{Log, next_slot}
use Rattle.nv_room.specs.Room.{cursor, Moment, Live, Leads, tag, Tag, Knows, Notes, Merge, stamp_word, Rule}
use Rattle.nv_room.specs.Steps.{probed_at, probed}
use Rattle.nv_room.proofs.Lists.{at_end, there, prefix_take}
use Rattle.nv_room.proofs.Placement.{place_early, slots_apart}
use Rattle.nv_room.proofs.Merges.{merge_turned}
use Rattle.nv_room.proofs.Stays.{last_near, now, looked, planned}
use Rattle.nv_room.proofs.Seats.{not_holder, in_role, seated}
use Rattle.nv_room.specs.Planned.{asked_in}

by_test : {A : Type 0} (b : Bool) → (b ≡ true → A) → (b ≡ false → A) → A
by_test true hit miss = hit refl
by_test false hit miss = miss refl

module _ {T : Type 0} (l : ℕ) (v : View T) where
  abbrev hit : View T
  hit = record v { noted = Some l }

  abbrev miss : View T
  miss = record v { missed = v.missed ++ l ∷ [] }

  knows_probed : (p : Layout T) (m : Moment) (x : ℕ) → Knows p m v → Knows p m (probed_at l v x)
  knows_probed p m x k = elim (low x == length v.seen) as (λ (b : Bool). Knows p m (cond b hit miss)) [
    | true ↦ record {
      seen_is_prefix = k.seen_is_prefix;
      read_begins_next = k.read_begins_next;
      floor_at_most_cursor = k.floor_at_most_cursor;
      head_seen_at_most_head = k.head_seen_at_most_head;
      owner_seen_at_most_head = k.owner_seen_at_most_head;
      opened_at_most_open = k.opened_at_most_open;
      in_role = k.in_role;
      seated = λ l. let q = k.seated l in record {
        start_is = q.start_is;
        places_are = q.places_are;
        opened_least = q.opened_least;
        last = q.last;
        spans_are = q.spans_are;
        unmade_is_new = q.unmade_is_new;
        others_are_gone = q.others_are_gone;
      };
      ended_is_past = k.ended_is_past;
    }
    | false ↦ record {
      seen_is_prefix = k.seen_is_prefix;
      read_begins_next = k.read_begins_next;
      floor_at_most_cursor = k.floor_at_most_cursor;
      head_seen_at_most_head = k.head_seen_at_most_head;
      owner_seen_at_most_head = k.owner_seen_at_most_head;
      opened_at_most_open = k.opened_at_most_open;
      in_role = k.in_role;
      seated = λ l. let q = k.seated l in record {
        start_is = q.start_is;
        places_are = q.places_are;
        opened_least = q.opened_least;
        last = q.last;
        spans_are = q.spans_are;
        unmade_is_new = q.unmade_is_new;
        others_are_gone = q.others_are_gone;
      };
      ended_is_past = k.ended_is_past;
    }
  ]

  tag_probed : (x : ℕ) → Path Tag (tag (probed_at l v x)) (tag v)
  tag_probed x = elim (low x == length v.seen) as (λ (b : Bool). Path Tag (tag (cond b hit miss)) (tag v)) [ true ↦ (λ _. tag v) | false ↦ (λ _. tag v) ]

  leads_probed : (x : ℕ) → Leads v.role → Leads (probed_at l v x).role × ((probed_at l v x).station ≡ v.station)
  leads_probed x q = elim (low x == length v.seen) as (λ (b : Bool). Leads (cond b hit miss).role × ((cond b hit miss).station ≡ v.station)) [ true ↦ (q, refl) | false ↦ (q, refl) ]

-- what is noted of a lane
noted_hit : (log seen : Log) (noted : Option ℕ) (missed read : List ℕ) (l : ℕ) → Notes log seen noted missed read → length seen < length log → l ≡ lane log (length seen) → Notes log seen (Some l) missed read
noted_hit log seen noted missed read l k more is = record { noted_is_next = λ j e. (more, sym (same_Some l j e) ∙ is); missed_is_not = k.missed_is_not; unnoted_is_unread = λ (e : Some l ≡ None). cc }

noted_miss : (log seen : Log) (noted : Option ℕ) (missed read : List ℕ) (l : ℕ) → Notes log seen noted missed read → length seen < length log → l ≢ lane log (length seen) → Notes log seen noted (missed ++ l ∷ []) read
noted_miss log seen noted missed read l k more is = record {
  noted_is_next = k.noted_is_next;
  missed_is_not = λ j h. ⊎_elim (λ (q : get_elem? missed h.0 ≡ some j). k.missed_is_not j (h.0, q)) (λ (q : (h.0 ≡ length missed) × (l ≡ j)). (more, λ e. is (q.1 ∙ e))) (at_end missed l j h.0 h.1);
  unnoted_is_unread = k.unnoted_is_unread;
}

module _ {K : Type 0} (hist : K → List Entry) (came : K → K → List ℕ → Type 0) (p : Layout K) where
  abbrev St : Type 0
  St = State (Option K) (View K)

  abbrev RuleOf : St → Type 0
  RuleOf = Rule hist came p

  abbrev M : Type 0
  M = Me (Option K) (View K)

  lawful_entries : (s : St) (r : RuleOf s) → IsLawful (entries r.log)
  lawful_entries s r = subst IsLawful (sym (ap entries (sym r.common.log_is_spelt) ∙ entries_spelt r.common.events (λ i e f. lawful_range r.common.events i e r.common.log_is_lawful f))) r.common.log_is_lawful

  -- the number of an event that a reader has still to see stands in its place
  stamped : (s : St) (r : RuleOf s) (id : ℕ) (v : View K) → get_elem? s.views id ≡ some v → v.role ≡ Reader → length v.seen < length r.log → IsStamped p.places (stamp_word p.stations p.places s.words) r.log (length v.seen)
  stamped s r id v at role more = let n : ℕ = p.stations in let c : ℕ = p.places in let i : ℕ = length v.seen in let ir = in_role hist came p s r id v at Reader role in let se = seated hist came p s r id v at Reader role tt in
      let e = there r.log i more in
      let y = there r.common.events i (let q = ap length r.common.log_is_spelt in omega (arith, length-map r.common.events spell)) in
      let spells : e.0 ≡ spell y.0 = some-injective e.0 (spell y.0) (sym e.1 ∙ subst (λ (z : Log). get_elem? z i ≡ some (spell y.0)) r.common.log_is_spelt (at_map spell r.common.events i y.0 y.1)) in
      let word = number_word y.0 (lawful_range r.common.events i y.0 r.common.log_is_lawful y.1) in
      let stamp : y.0.stamp ≡ i = (r.common.log_is_lawful i y.0 (slice_some r.common.events i y.0 y.1)).stamp in
      let other : v.station ≢ r.holder = not_holder (now hist came p s r) v.station r.common.led ir.led_nothing (omega arith) in
      let le : cursor s.words v.station ≤ i = subst (λ (z : ℕ). z ≤ i) (sym ir.cursor_is_length) (le_refl i) in
      let stands = r.common.places.unread_stands i v.station e.0 other (last_near r.seating v.version v.station se.last) le e.1 1 _ (ap (λ (z : List ℕ). get_elem? z 1) spells ∙ word.0) in
      ap (λ (z : ℕ). low (get_or s.words z 0)) (sym (place_early n c r.log i 1 (omega arith))) ∙ ap low stands ∙ word.1 ∙ stamp

  pub probes : (slots id k l : ℕ) (me : M) → me.0.role ≡ Reader → l < 8 → Lives me.0.seen l → length me.0.seen < me.0.head_last → k ≡ next_slot p.stations p.places (lanes_after me.0.seen) l 1
      → Allows RuleOf slots id me k (λ x. x) (probed (step slots k 0 0 none) me)
  probes slots id k l me role below living before is s r wide at _ =
      let v = me.0 in
      let n : ℕ = p.stations in
      let c : ℕ = p.places in
      let kn = r.each_seat id v at in
      let mg = r.merge in
      let seen : Log = v.seen in
      let i : ℕ = length v.seen in
      let se = seated hist came p s r id v at Reader role tt in let nt = mg.notes id v at role in let x : ℕ = get_or s.words k 0 in let pos : 0 < c = r.common.places.some_place in
      let more : i < length r.log = (let q = kn.head_seen_at_most_head in omega arith) in
      let prefix : take i r.log ≡ v.seen = prefix_take v.seen r.log kn.seen_is_prefix in
      let sec : ℕ → ℕ → ℕ = stamp_word n c s.words in
      let shown : found_in_lane c sec v.seen l ≡ low x = ap (λ (z : ℕ). low (get_or s.words z 0)) (sym is) in
      let stands = stamped s r id v at role more in
      let floors : length v.floors ≡ n = mg.floors_wide id v at (subst Live (sym role) tt) in
      let w : View K = probed_at l v x in
      let turned =
      λ (u : View K) (same : u.role ≡ v.role) (writes : (u.wrote ≡ v.wrote) × (u.asked ≡ v.asked)) (notes : Notes r.log u.seen u.noted u.missed u.read)
      (floored : length u.floors ≡ n). merge_turned n c s.views id v u at s.words s.words r.log r.phase mg (λ _ _. refl) (λ e. let own = mg.lead_tells id v at (subst Leads same e) in (writes.0 ∙ own.0, writes.1 ∙ own.1)) (λ _. notes) (λ _. floored) in
      let merge : Merge n c s.words r.log r.phase (asked_in (planned hist came p) r.spans) (set s.views id w) = by_test (low x == i)
      (λ t. subst (λ (b : Bool). Merge n c s.words r.log r.phase (asked_in (planned hist came p) r.spans) (set s.views id (cond b (hit l v) (miss l v)))) (sym t)
      (turned (hit l v) refl (refl, refl) (noted_hit r.log v.seen v.noted v.missed v.read l nt more (probe_hits c sec r.log mg.writing v.seen l pos mg.stamps more below living (shown ∙ eqb-true (low x) i t))) floors))
      (λ f. subst (λ (b : Bool). Merge n c s.words r.log r.phase (asked_in (planned hist came p) r.spans) (set s.views id (cond b (hit l v) (miss l v)))) (sym f)
      (turned (miss l v) refl (refl, refl) (noted_miss r.log v.seen v.noted v.missed v.read l nt more (probe_misses c sec r.log v.seen l prefix stands (λ e. eqb-false (low x) i f (sym shown ∙ e)))) floors)) in (
        w,
        keeps,
        tt,
        looked hist came p s r k id me.1 v w at (tag_probed l v x) (leads_probed l v x) (knows_probed l v p (now hist came p s r) x kn) merge,
        λ j near word.
            let same : l ≡ j = (slots_apart n c l _ 1 j _ 1 (mod-lt _ pos) (mod-lt _ pos) (omega arith) (omega arith) (sym is ∙ word ∙ (λ z. next_slot (floors z) (se.places_are z) (lanes_after v.seen) j 1))).0 in (
              ap (λ (z : ℕ). (probed_at z v x, me.1)) same,
              λ ne. (
                lane r.log i,
                lane_below_8 r.log i,
                next_lives r.log v.seen (lawful_entries s r) prefix more,
                λ h. ⊎_elim
                    (λ (q : get_elem? v.missed h.0 ≡ some (lane r.log i)). (nt.missed_is_not (lane r.log i) (h.0, q)).1 refl)
                    (λ (q : (h.0 ≡ length v.missed) × (j ≡ lane r.log i)). ne (sym shown ∙ ap (found_in_lane c sec v.seen) (same ∙ q.1) ∙ next_found c sec r.log v.seen prefix stands))
                    (at_end v.missed j (lane r.log i) h.0 h.1),
              ),
            ),
      )
