-- Looks keep the rule.
use Rattle.std.proofs.Common.{◌≡◌, ℕ, ◌+◌, ◌*◌, ◌<◌, ◌≤◌, ◌≢◌, ◌⊎◌, true, false, List, [], ◌∷◌, ◌++◌, length, get_or, set, sym, refl, ap, ◌∙◌, subst, inl, inr, ⊎_elim, le_refl, lt_of_not-le, arith, length-set}
use Rattle.std.proofs.lemmas.List.{length-map}
use mathlib.Core.Logic.{dite}
use mathlib.Core.Option.{none, some, some-injective}
use native.Mathlib.Decide.{ℕ_discrete, dec_le}
use lib.ListN.{get_elem?}
use Rattle.std.specs.Prelude.{Option, Some, None}
use Rattle.atomic_table.specs.Table.{State, Me, step, keeps, Allows}
use Rattle.atomic_table.proofs.Lists.{at_map}
use Rattle.nv_calls.specs.Calls.{Entry}
use Rattle.nv_calls.proofs.LogLaws.{lawful_range}
use Rattle.nv_words.specs.Spelling.{IsWhole, spell}
use Rattle.nv_words.specs.Begins.{Prefix}
use Rattle.nv_words.proofs.SpellLaws.{prefix_length, prefix_same, whole_same, shorter}
use Rattle.nv_room.specs.declared.view.View.{View}
use Rattle.nv_room.specs.declared.view.Layout.{Layout}
use Rattle.nv_room.specs.declared.view.Role.TheVariants.{Reader, Lead}
use Rattle.nv_room.specs.Header.{head_index, cursor_index}
use Rattle.nv_room.specs.Logs.{lane}
use Rattle.nv_room.specs.Placement.{Log, word_place}
use Rattle.nv_room.specs.Owner.{GONE, Phase, held, free, closed, is_held, is_free, is_closed, owner_at, opened_at, lower_marked, is_noted, note_of}
use Rattle.nv_room.proofs.OwnerLaws.{and_both, marked}
use Rattle.nv_room.specs.Spans.{Opened}
use Rattle.nv_room.specs.Room.{cursor, InRole, Live, Leads, Notes, Merge, Rule}
use Rattle.nv_room.specs.Steps.{head_seen, looked_head, owner_seen, looked_owner, word_seen, read_word, cursor_seen, looked_cursor}
use Rattle.nv_room.proofs.Lists.{at_below, there, at_end, set_or}
use Rattle.nv_room.proofs.Owners.{Found, found, found_open, as_held, as_free, as_closed, noted_is}
use Rattle.nv_room.proofs.Tiling.{tiles_none}
use Rattle.nv_room.proofs.Merges.{merge_turned}
use Rattle.nv_room.proofs.Stays.{last_near, now, looked, planned}
use Rattle.nv_room.proofs.Seats.{prefix_more, holder_led, not_holder, not_held, in_role, seated, open_near, role_near, told}
use Rattle.nv_room.specs.Planned.{asked_in}

module _ {K : Type 0} (hist : K → List Entry) (came : K → K → List ℕ → Type 0) (p : Layout K) where
  abbrev St : Type 0
  St = State (Option K) (View K)

  abbrev RuleOf : St → Type 0
  RuleOf = Rule hist came p

  abbrev M : Type 0
  M = Me (Option K) (View K)

  -- a look moves no word, so the places tell what they told
  still : (s : St) (r : RuleOf s) (id : ℕ) (v w : View K) → get_elem? s.views id ≡ some v → (Leads w.role → (w.wrote ≡ r.merge.writing) × (w.asked ≡ asked_in (planned hist came p) r.spans)) → (w.role ≡ Reader → Notes r.log w.seen w.noted w.missed w.read)
      → (Live w.role → length w.floors ≡ p.stations)
      → Merge p.stations p.places s.words r.log r.phase (asked_in (planned hist came p) r.spans) (set s.views id w)
  still s r id v w at leads reads wide = merge_turned p.stations p.places s.views id v w at s.words s.words r.log r.phase r.merge (λ _ _. refl) leads reads wide

  pub looks_head : (slots id : ℕ) (me : M) → Allows RuleOf slots id me head_index (λ x. x) (looked_head (step slots head_index 0 0 none) me)
  looks_head slots id me s r wide at _ = let v = me.0 in let k = r.each_seat id v at in let pl = r.common.places in
      let few : length r.log ≤ 500000000 = pl.log_is_short in let is : get_or s.words head_index 0 ≡ length r.log = pl.head_is_length in (
        head_seen v (get_or s.words head_index 0),
        keeps,
        tt,
        looked hist came p s r head_index id me.1 v (head_seen v (get_or s.words head_index 0)) at refl (λ q. (q, refl))
            record {
              seen_is_prefix = k.seen_is_prefix;
              read_begins_next = k.read_begins_next;
              floor_at_most_cursor = k.floor_at_most_cursor;
              head_seen_at_most_head = omega arith;
              owner_seen_at_most_head = k.owner_seen_at_most_head;
              opened_at_most_open = k.opened_at_most_open;
              in_role = k.in_role;
              seated = λ l. let q = k.seated l in record {
                start_is = q.start_is;
                places_are = q.places_are;
                opened_least = q.opened_least;
                last = q.last;
                spans_are = q.spans_are;
                unmade_is_new = q.unmade_is_new;
                others_are_gone = q.others_are_gone;
              };
              ended_is_past = k.ended_is_past;
            }
            (still s r id v (head_seen v (get_or s.words head_index 0)) at (λ e. r.merge.lead_tells id v at e) (λ e. r.merge.notes id v at e) (λ l. r.merge.floors_wide id v at l)),
        (refl, omega arith, (let q = prefix_length v.seen r.log k.seen_is_prefix in omega arith), (let q = k.owner_seen_at_most_head in omega arith), (let q = k.head_seen_at_most_head in omega arith)),
      )

  -- a lead is no further ahead of another station than there are places
  in_window : (s : St) (r : RuleOf s) (id : ℕ) (v : View K) → get_elem? s.views id ≡ some v → v.role ≡ Lead → (st : ℕ) → st < v.opened → st ≢ v.station → length v.seen ≤ cursor s.words st + v.places
  in_window s r id v at role st near other =
      let ir = in_role hist came p s r id v at Lead role in
      let seen : length v.seen ≡ length r.log = ir.seen_is_log in
      let places : v.places ≡ p.places = (seated hist came p s r id v at Lead role tt).places_are in
      let within : st < length r.seating = (let e = ir.opened_is in omega arith) in
      let window : length r.log ≤ cursor s.words st + p.places = r.common.places.head_in_window st (λ e. other (e ∙ sym ir.is_holder)) within in
      omega arith

  count_or_gone : (len x : ℕ) → len ≤ 500000000 → (x ≤ len) ⊎ (x ≡ GONE) → (x ≤ 500000000) ⊎ (x ≡ GONE)
  count_or_gone len x few k = ⊎_elim (λ (a : x ≤ len). inl (omega arith)) (λ (e : x ≡ GONE). inr e) k

  pub looks_cursor : (slots id st : ℕ) (me : M) → st < p.stations → Allows RuleOf slots id me (cursor_index st) (λ x. x) (looked_cursor (step slots (cursor_index st) 0 0 none) me)
  looks_cursor slots id st me near s r wide at _ = let v = me.0 in let k = r.each_seat id v at in let x : ℕ = get_or s.words (cursor_index st) 0 in
      let few : length r.log ≤ 500000000 = r.common.places.log_is_short in (
        cursor_seen st v x,
        keeps,
        tt,
        looked hist came p s r (cursor_index st) id me.1 v (cursor_seen st v x) at refl (λ q. (q, refl)) record {
          seen_is_prefix = k.seen_is_prefix;
          read_begins_next = k.read_begins_next;
          floor_at_most_cursor = λ j l. ⊎_elim (λ (e : get_or (set v.floors st x) j 0 ≡ get_or v.floors j 0). subst (λ (z : ℕ). z ≤ cursor s.words j) (sym e) (k.floor_at_most_cursor j l))
              (λ (e : (j ≡ st) × (get_or (set v.floors st x) j 0 ≡ x)). subst (λ (z : ℕ). get_or (set v.floors st x) j 0 ≤ cursor s.words z) (sym e.0) (let q = e.1 in omega arith)) (set_or v.floors st j x);
          head_seen_at_most_head = k.head_seen_at_most_head;
          owner_seen_at_most_head = k.owner_seen_at_most_head;
          opened_at_most_open = k.opened_at_most_open;
          in_role = k.in_role;
          seated = λ l. let q = k.seated l in record {
            start_is = q.start_is;
            places_are = q.places_are;
            opened_least = q.opened_least;
            last = q.last;
            spans_are = q.spans_are;
            unmade_is_new = q.unmade_is_new;
            others_are_gone = q.others_are_gone;
          };
          ended_is_past = k.ended_is_past;
        } (still s r id v (cursor_seen st v x) at (λ e. r.merge.lead_tells id v at e) (λ e. r.merge.notes id v at e) (λ l. length-set v.floors st x ∙ r.merge.floors_wide id v at l)),
        (
          count_or_gone (length r.log) x few (r.common.places.cursor_is_count_or_gone st near),
          λ j e. let e' : 8 * (st + 2) ≡ 8 * (j + 2) = e in let q : st ≡ j = omega arith in (
            ap (λ (z : ℕ). (cursor_seen z v x, me.1)) q,
            λ role other open'. in_window s r id v at role st (let z = q in omega arith) (λ h. other (sym q ∙ h)),
            (let f = subst (λ (z : ℕ). get_or v.floors z 0 ≤ cursor s.words st) q (k.floor_at_most_cursor st near) in f),
          ),
        ),
      )

  -- Reading the owner word

  learnt_at : (s : St) (r : RuleOf s) (n x : ℕ) → (ph : Phase) → Found (length r.log) x ph → (owner_at x ≤ length r.log) × ((is_held x ≡ true) ⊎ ((is_free x ≡ true) ⊎ (is_closed x ≡ true))) × (is_held x ≡ false → owner_at x ≡ length r.log)
  learnt_at s r n x held (as_held a b c d) = let z = d.0 in (omega arith, inl a, λ e. cc)
  learnt_at s r n x free (as_free a b c d) = (omega arith, inr (inl b), λ e. d)
  learnt_at s r n x closed (as_closed a b c d) = (omega arith, inr (inr c), λ e. d)

  found_free : (n x : ℕ) (ph : Phase) → Found n x ph → is_free x ≡ true → (ph ≡ free) × (owner_at x ≡ n)
  found_free n x held (as_held a b c d) e = cc
  found_free n x free (as_free a b c d) e = (refl, d)
  found_free n x closed (as_closed a b c d) e = cc

  free_found : (n x : ℕ) (ph : Phase) → Found n x ph → ph ≡ free → n ≡ 0 → (is_free x ≡ true) × (owner_at x ≡ 0)
  free_found n x held (as_held a b c d) e z = cc
  free_found n x free (as_free a b c d) e z = (b, d ∙ z)
  free_found n x closed (as_closed a b c d) e z = cc

  found_closed : (n x : ℕ) (ph : Phase) → Found n x ph → is_closed x ≡ true → (ph ≡ closed) × (owner_at x ≡ n)
  found_closed n x held (as_held a b c d) e = cc
  found_closed n x free (as_free a b c d) e = cc
  found_closed n x closed (as_closed a b c d) e = (refl, d)

  found_small : (n x : ℕ) (ph : Phase) → Found n x ph → is_held x ≡ true → x < 2048
  found_small n x held (as_held a b c d) e = d.1
  found_small n x free (as_free a b c d) e = cc
  found_small n x closed (as_closed a b c d) e = cc

  found_held : (n x : ℕ) (ph : Phase) → Found n x ph → ph ≢ held → is_held x ≡ false
  found_held n x held (as_held a b c d) ne = absurd (ne refl)
  found_held n x free (as_free a b c d) ne = a
  found_held n x closed (as_closed a b c d) ne = a

  pub looks_owner : (slots id : ℕ) (me : M) → me.0.role ≡ Reader → Allows RuleOf slots id me 0 (λ x. x) (looked_owner (step slots 0 0 0 none) me)
  looks_owner slots id me role s r wide at _ = let v = me.0 in let kn = r.each_seat id v at in let x : ℕ = get_or s.words 0 0 in let pl = r.common.places in
      let ir = in_role hist came p s r id v at Reader role in let st : ℕ = v.station in let se = seated hist came p s r id v at Reader role tt in let n : ℕ = p.stations in let len : ℕ = length r.log in
      let near : st < n = role_near hist came p s r id v at Reader role tt in
      let few : len ≤ 500000000 = pl.log_is_short in
      let all = open_near hist came p s r in
      let small : r.holder < 16 = (let a = pl.few_stations in let b = pl.holder_is_open in omega arith) in
      let open_few : length r.seating ≤ 16 = (let a = pl.few_stations in omega arith) in
      let f : Found len x r.phase = found r.phase r.holder (length r.seating) len x small open_few pl.owner_is in
      let opened : opened_at x ≡ length r.seating = found_open r.phase r.holder (length r.seating) len x small open_few pl.owner_is in
      let l = learnt_at s r n x r.phase f in let seen : length v.seen ≤ len = prefix_length v.seen r.log kn.seen_is_prefix in let mine : cursor s.words st ≡ length v.seen = ir.cursor_is_length in
      let low : lower_marked st v.floors ≡ true → (z : ℕ) → z < st → GONE ≤ cursor s.words z = λ e z b. (let a = marked st v.floors e z b in let c = kn.floor_at_most_cursor z (omega arith) in omega arith) in
      let unheld : lower_marked st v.floors ≡ true → r.phase ≢ held = λ e is. dite (ℕ_discrete st r.holder) (λ same. not_held (now hist came p s r) st r.common.led ir.led_nothing is same)
      (λ ne. dite (dec_le st r.holder) (λ le. let g = pl.lower_are_gone st (omega arith) in omega arith)
      (λ gt. let lt : r.holder < st = lt_of_not-le gt in let g = low e r.holder lt in let c : cursor s.words r.holder ≤ len = pl.lead_counts is in omega arith)) in
      let v' : View K = owner_seen v x in (
        v',
        keeps,
        tt,
        looked hist came p s r 0 id me.1 v v' at refl (λ q. (q, refl)) record {
          seen_is_prefix = kn.seen_is_prefix;
          read_begins_next = kn.read_begins_next;
          floor_at_most_cursor = kn.floor_at_most_cursor;
          head_seen_at_most_head = kn.head_seen_at_most_head;
          owner_seen_at_most_head = l.0;
          opened_at_most_open = let z = opened in omega arith;
          in_role = subst (InRole n p.places (now hist came p s r) v') (sym role) record {
            cursor_is_length = ir.cursor_is_length;
            led_nothing = ir.led_nothing;
            wrote_nothing = ir.wrote_nothing;
            freed_stays = λ k e. ⊎_elim (λ (q : (is_noted st v.floors x ≡ true) × (note_of x ≡ k)). let b = and_both (is_free x)
                (lower_marked st v.floors) q.0 in let y = found_free len x r.phase f b.0 in record { is_free = y.0; at_head = sym q.1 ∙ y.1; opened_is = opened; lower_gone = low b.1 })
                (λ (q : v.freed ≡ Some k). let y = ir.freed_stays k q in record { is_free = y.is_free; at_head = y.at_head; opened_is = opened; lower_gone = y.lower_gone }) (noted_is v.freed st v.floors x k e);
          };
          seated = λ g. let q = kn.seated g in record {
            start_is = q.start_is;
            places_are = q.places_are;
            opened_least = (let a = r.common.doors.least in omega arith);
            last = q.last;
            spans_are = q.spans_are;
            unmade_is_new = q.unmade_is_new;
            others_are_gone = q.others_are_gone;
          };
          ended_is_past = kn.ended_is_past;
        } (still s r id v v' at (λ e. r.merge.lead_tells id v at e) (λ e. r.merge.notes id v at e) (λ l. r.merge.floors_wide id v at l)),
        (
          refl,
          record {
            at_most = let a = l.0 in omega arith;
            opened_few = let w = r.merge.floors_wide id v at (subst Live (sym role) tt) in omega arith;
            held_is_small = found_small len x r.phase f;
            is_known = l.1;
            within = λ e. let a = l.2 e in omega arith;
            last_is_free = λ e. found_held len x r.phase f (unheld e);
            first_is_free = λ e. let same : cursor s.words st ≡ cursor s.words 0 = ap (cursor s.words) e in let low : r.holder ≡ 0 = dite (dec_le 1 r.holder)
                (λ le. let g = pl.lower_are_gone 0 le in absurd (omega arith)) (λ gt. omega arith) in
                let unled = holder_led (now hist came p s r) st r.common.led ir.led_nothing (e ∙ sym low) in
                let b = tiles_none 0 len r.spans r.common.led.tile unled in let g = free_found len x r.phase f (r.common.led.unled_is_free unled) (sym b) in
                let whole : p.versions ≡ length r.seating = subst (Opened p.versions r.seating) unled r.common.turns.opened in (g.0, g.1, (let a = se.opened_least in let c = kn.opened_at_most_open in omega arith));
            closed_at_end = λ e same. let y = found_closed len x r.phase f e in let all : v.seen ≡ r.log = prefix_same v.seen r.log (sym same ∙ y.1) kn.seen_is_prefix in
                (r.common.events, r.common.log_is_spelt ∙ sym all, r.common.log_is_lawful, r.common.closed_has_ended y.0);
          },
        ),
      )

  -- Reading a word of a place

  pub reads_word : (slots id k l : ℕ) (me : M) → me.0.role ≡ Reader → ¬ IsWhole me.0.read → me.0.noted ≡ Some l
      → ((log : Log) → Prefix me.0.seen log → l ≡ lane log (length me.0.seen) → k ≡ word_place p.stations p.places log (length me.0.seen) (length me.0.read))
      → Allows RuleOf slots id me k (λ x. x) (read_word (step slots k 0 0 none) me)
  reads_word slots id k l me role part before is s r wide at _ = let v = me.0 in let n : ℕ = p.stations in let c : ℕ = p.places in let kn = r.each_seat id v at in let m : ℕ = length v.seen in
      let nt = (r.merge.notes id v at role).noted_is_next l before in let got = there r.log m nt.0 in let e : List ℕ = got.0 in let ir = in_role hist came p s r id v at Reader role in let se = seated hist came p s r id v at Reader role tt in
      let rd : Prefix v.read e = λ j x f. let y = kn.read_begins_next j x f in subst (λ (z : List ℕ). get_elem? z j ≡ some x) (some-injective y.0 e (sym y.1 ∙ got.1)) y.2 in
      let wh = r.common.places.event_is_whole m e got.1 in let nx = there e (length v.read) (shorter v.read e rd wh.0 part) in let x : ℕ = get_or s.words k 0 in
      let le : cursor s.words v.station ≤ m = subst (λ (z : ℕ). z ≤ m) (sym ir.cursor_is_length) (le_refl m) in
      let other : v.station ≢ r.holder = not_holder (now hist came p s r) v.station r.common.led ir.led_nothing (omega arith) in
      let found : x ≡ nx.0 = ap (λ (z : ℕ). get_or s.words z 0) (is r.log kn.seen_is_prefix nt.1) ∙ r.common.places.unread_stands m v.station e other (last_near r.seating v.version v.station se.last) le got.1 (length v.read) nx.0 nx.1 in
      let y = there r.common.events m (let q = ap length r.common.log_is_spelt in let g = at_below r.log m e got.1 in omega (arith, length-map r.common.events spell)) in
      let spells : e ≡ spell y.0 = some-injective e (spell y.0) (sym got.1 ∙ subst (λ (z : Log). get_elem? z m ≡ some (spell y.0)) r.common.log_is_spelt (at_map spell r.common.events m y.0 y.1)) in
      let more : Prefix (v.read ++ x ∷ []) e = λ j y' f. ⊎_elim (λ (g : get_elem? v.read j ≡ some y'). rd j y' g)
      (λ (g : (j ≡ length v.read) × (x ≡ y')). subst (λ (z : ℕ × ℕ). get_elem? e z.0 ≡ some z.1) (λ i. (sym g.0 i, (sym found ∙ g.1) i)) nx.1) (at_end v.read x y' j f) in (
        word_seen v x,
        keeps,
        tt,
        looked hist came p s r k id me.1 v (word_seen v x) at refl (λ q. (q, refl))
            record {
              seen_is_prefix = kn.seen_is_prefix;
              read_begins_next = λ j y f. (e, got.1, more j y f);
              floor_at_most_cursor = kn.floor_at_most_cursor;
              head_seen_at_most_head = kn.head_seen_at_most_head;
              owner_seen_at_most_head = kn.owner_seen_at_most_head;
              opened_at_most_open = kn.opened_at_most_open;
              in_role = subst (InRole n c (now hist came p s r) (word_seen v x)) (sym role) ir;
              seated = λ l. let q = kn.seated l in record {
                start_is = q.start_is;
                places_are = q.places_are;
                opened_least = q.opened_least;
                last = q.last;
                spans_are = q.spans_are;
                unmade_is_new = q.unmade_is_new;
                others_are_gone = q.others_are_gone;
              };
              ended_is_past = kn.ended_is_past;
            }
            (still s r id v (word_seen v x) at (λ e. r.merge.lead_tells id v at e) (λ e. let k = r.merge.notes id v at e in record {
              noted_is_next = k.noted_is_next;
              missed_is_not = k.missed_is_not;
              unnoted_is_unread = λ q. let none : Some l ≡ None = sym before ∙ q in cc;
            }) (λ l. r.merge.floors_wide id v at l)),
        (
          refl,
          (y.0, lawful_range r.common.events m y.0 r.common.log_is_lawful y.1, subst (λ (z : List ℕ). Prefix (v.read ++ x ∷ []) z) spells more),
          λ full. let same : v.read ++ x ∷ [] ≡ e = whole_same (v.read ++ x ∷ []) e more full wh.0 in told hist came p s r (v.seen ++ (v.read ++ x ∷ []) ∷ [])
              (prefix_more v.seen (v.read ++ x ∷ []) r.log kn.seen_is_prefix (got.1 ∙ ap some (sym same))),
        ),
      )
