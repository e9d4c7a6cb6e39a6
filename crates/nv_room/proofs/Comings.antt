-- How the room opens, how readers' seats are cut off the first, and how seats come back to one.
use Rattle.std.proofs.Common.{◌≡◌, ℕ, zero, suc, ◌+◌, ◌*◌, ◌<◌, ◌≤◌, ◌≢◌, ◌⊎◌, List, [], ◌∷◌, ◌++◌, map, length, get_or, set, replicate, sym, refl, ap, ◌∙◌, subst, inl, inr, ⊎_elim, le_refl, zero-le, arith, length-append}
use mathlib.Core.Path.{Path}
use mathlib.Core.List.{map-append}
use mathlib.Core.Logic.{dite}
use native.Mathlib.Decide.{dec_le}
use mathlib.Core.Option.{some, some-injective, some-ne-none}
use lib.ListN.{get_elem?}
use lib.Seq.{map-set}
use Rattle.std.specs.Prelude.{Option, Some}
use Rattle.atomic_table.specs.Table.{State, Splits, Joins, opening}
use Rattle.atomic_table.proofs.Lists.{at_map, at_set, at_longer}
use Rattle.nv_calls.specs.Calls.{Entry}
use Rattle.nv_calls.proofs.LogLaws.{lawful_none}
use Rattle.nv_words.proofs.SpellLaws.{prefix_length}
use Rattle.nv_room.specs.declared.view.View.{View}
use Rattle.nv_room.specs.declared.view.Layout.{Layout}
use Rattle.nv_room.specs.declared.view.Past.{Past}
use Rattle.nv_room.specs.declared.view.Span.{Span}
use Rattle.nv_room.specs.declared.view.Role.{Role}
use Rattle.nv_room.specs.declared.view.Role.TheVariants.{Reader, Gone, Spent}
use Rattle.nv_room.specs.Header.{head_index, cursor_index}
use Rattle.nv_room.proofs.StampLaws.{stamps_first}
use Rattle.nv_room.specs.Placement.{table_words, slot}
use Rattle.std.proofs.lemmas.List.{length-replicate}
use Rattle.nv_room.specs.Owner.{free}
use Rattle.nv_room.specs.Spans.{of_station, of_version, IsLastStation, Opened}
use Rattle.nv_room.specs.Room.{cursor, Moment, as_of, IsPast, Knows, Tag, tag, version_of, Has, Live, Leads, Out, Clash, NoClash, Notes, stamp_word, Rule, first}
use Rattle.nv_room.specs.Steps.{one_made, reader_of, past_of, rejoined, spent}
use Rattle.nv_room.proofs.Lists.{at_end, at_below}
use Rattle.nv_room.proofs.Placement.{slot_after}
use Rattle.nv_room.proofs.Merges.{merge_turned, merge_cut, notes_none}
use Rattle.nv_room.proofs.Stays.{planned, now, lead_stays}
use Rattle.nv_room.proofs.Seats.{holder_led, one_who, in_role, seated}

flip : (a b : Tag) → Clash a b → Clash b a
flip a b c = (c.1, c.0, ⊎_elim (λ e. inl (sym e)) (λ e. inr (⊎_elim (λ q. inr q) (λ q. inl q) e)) c.2)

one_at : {A : Type 0} (a : A) (j : ℕ) (b : A) → get_elem? (a ∷ []) j ≡ some b → (j ≡ 0) × (a ≡ b)
one_at a zero b e = (refl, some-injective a b e)
one_at a (suc j) b e = absurd (some-ne-none b (sym e))

pub zero_at : (n j : ℕ) → get_or (replicate {A = ℕ} n 0) j 0 ≡ 0
zero_at zero j = refl
zero_at (suc n) zero = refl
zero_at (suc n) (suc j) = zero_at n j

-- the numbers from a on, so many
abbrev numbers : ℕ → ℕ → List ℕ
numbers a zero = []
numbers a (suc n) = a ∷ numbers (a + 1) n

length-numbers : (a n : ℕ) → length (numbers a n) ≡ n
length-numbers a zero = refl
length-numbers a (suc n) = let h = length-numbers (a + 1) n in omega arith

number_at : (a n s : ℕ) → s < n → get_elem? (numbers a n) s ≡ some (a + s)
number_at a zero s l = absurd (omega arith)
number_at a (suc n) zero l = ap some (let q : a ≡ a + 0 = omega arith in q)
number_at a (suc n) (suc s) l = number_at (a + 1) n s (omega arith) ∙ ap some (let q : a + 1 + s ≡ a + suc s = omega arith in q)

number_from : (n s : ℕ) → s < n → get_elem? (numbers 0 n) s ≡ some s
number_from n s l = number_at 0 n s l ∙ ap some (let q : 0 + s ≡ s = omega arith in q)

numbers_below : (a n s v : ℕ) → get_elem? (numbers a n) s ≡ some v → v < a + n
numbers_below a zero s v e = absurd (some-ne-none v (sym e))
numbers_below a (suc n) zero v e = let q : a ≡ v = some-injective a v e in omega arith
numbers_below a (suc n) (suc s) v e = let h = numbers_below (a + 1) n s v e in omega arith

number_last : (n s : ℕ) → s < n → IsLastStation (numbers 0 n) s s
number_last n s b = record {
  has = number_from n s b;
  none_later = λ t l e. (let within = at_below (numbers 0 n) t s e in let long = length-numbers 0 n in let q : t ≡ s = some-injective t s (sym (number_from n t (omega arith)) ∙ e) in omega arith);
}

spent_left : (x y : Tag) → (x ≡ (Spent, 0, 0, [])) → ¬ Clash x y
spent_left x y e c = subst (λ (z : Tag). Live z.0) e c.0

-- the seat id takes back the seat other
module _ (ts : List Tag) (id other s m u k : ℕ) (es gs : List ℕ) (a b : Role) (live : Live a) (live' : Live b) (at : get_elem? ts id ≡ some (a, s, m, es)) (at' : get_elem? ts other ≡ some (b, u, k, gs)) (old : NoClash ts) where
  abbrev js : List Tag
  js = set (set ts id (a, s, m, es ++ u ∷ [])) other (Spent, 0, 0, [])

  abbrev At : ℕ → Tag → Type 0
  At j x = ((j ≡ id) × (Path Tag (a, s, m, es ++ u ∷ []) x)) ⊎ ((j ≢ id) × (get_elem? ts j ≡ some x))

  -- no clash is with the spent seat
  unspent : (j : ℕ) (x y : Tag) → get_elem? js j ≡ some x → Clash x y → (j ≢ other) × At j x
  unspent j x y e c = ⊎_elim (λ (q : (j ≡ other) × (Path Tag (Spent, 0, 0, []) x)). absurd (spent_left x y (λ i. sym q.1 i) c))
      (λ (q : (j ≢ other) × (get_elem? (set ts id (a, s, m, es ++ u ∷ [])) j ≡ some x)). (q.0, at_set ts id j (a, s, m, es ++ u ∷ []) x q.1)) (at_set (set ts id (a, s, m, es ++ u ∷ [])) other j (Spent, 0, 0, []) x e)

  back : (h : ℕ) (y : Tag) → h ≢ other → get_elem? ts h ≡ some y → Clash (a, s, m, es ++ u ∷ []) y → id ≡ h
  back h y ne f c = let here = λ (d : (s ≡ y.1) ⊎ (Out s m es y.1 ⊎ Out y.1 y.2 y.3 s)). old id h (a, s, m, es) y at f (live, c.1, d) in
      ⊎_elim (λ e. here (inl e)) (λ e. ⊎_elim
      (λ (o : Out s m (es ++ u ∷ []) y.1). ⊎_elim (λ (l : m ≤ y.1). here (inr (inl (o.0, inl l)))) (λ (g : Has (es ++ u ∷ []) y.1). ⊎_elim (λ (q : get_elem? es g.0 ≡ some y.1). here (inr (inl (o.0, inr (g.0, q)))))
      (λ (q : (g.0 ≡ length es) × (u ≡ y.1)). absurd (ne (old h other y (b, u, k, gs) f at' (c.1, live', inl (sym q.1))))) (at_end es u y.1 g.0 g.1)) o.1)
      (λ (o : Out y.1 y.2 y.3 s). here (inr (inr o))) e) c.2

  pub apart_join : NoClash js
  apart_join j h x y e f c = let p = unspent j x y e c in let q = unspent h y x f (flip x y c) in ⊎_elim
      (λ (l : (j ≡ id) × (Path Tag (a, s, m, es ++ u ∷ []) x)). ⊎_elim (λ (r : (h ≡ id) × (Path Tag (a, s, m, es ++ u ∷ []) y)). l.0 ∙ sym r.0)
      (λ (r : (h ≢ id) × (get_elem? ts h ≡ some y)). l.0 ∙ back h y q.0 r.1 (subst (λ (z : Tag). Clash z y) (λ i. sym l.1 i) c)) q.1)
      (λ (l : (j ≢ id) × (get_elem? ts j ≡ some x)). ⊎_elim
      (λ (r : (h ≡ id) × (Path Tag (a, s, m, es ++ u ∷ []) y)). sym (r.0 ∙ back j x p.0 l.1 (flip x (a, s, m, es ++ u ∷ []) (subst (λ (z : Tag). Clash x z) (λ i. sym r.1 i) c))))
      (λ (r : (h ≢ id) × (get_elem? ts h ≡ some y)). old j h x y l.1 r.1 c) q.1) p.1

-- station 0's seat id makes the station m
module _ (ts : List Tag) (id m k : ℕ) (es : List ℕ) (a b : Role) (live : Live a) (pos : 0 < m) (none : es ≡ []) (at : get_elem? ts id ≡ some (a, 0, m, es)) (old : NoClash ts) where
  abbrev us : List Tag
  us = set ts id (a, 0, m + 1, es)

  empty : (t : ℕ) → ¬ Has es t
  empty t h = some-ne-none t (sym h.1 ∙ ap (λ (z : List ℕ). get_elem? z h.0) none)

  -- with one station more it clashes with no more
  less : (y : Tag) → Clash (a, 0, m + 1, es) y → Clash (a, 0, m, es) y
  less y c = (c.0, c.1, ⊎_elim (λ e. inl e) (λ e. inr (⊎_elim (λ (o : Out 0 (m + 1) es y.1). inl (o.0, ⊎_elim (λ (l : m + 1 ≤ y.1). inl (omega arith)) (λ h. inr h) o.1)) (λ o. inr o) e)) c.2)

  -- the new seat and one that was there
  mixed : (h : ℕ) (y : Tag) → get_elem? us h ≡ some y → ¬ Clash (b, m, k, []) y
  mixed h y f c = let mine : ¬ Clash (b, m, k, []) (a, 0, m + 1, es) = λ d. ⊎_elim (λ (e : m ≡ 0). omega arith)
      (λ e. ⊎_elim (λ (o : Out m k [] 0). let z = o.0 in omega arith) (λ (o : Out 0 (m + 1) es m). ⊎_elim (λ (l : m + 1 ≤ m). omega arith) (λ g. empty m g) o.1) e) d.2 in
      ⊎_elim (λ (q : (h ≡ id) × (Path Tag (a, 0, m + 1, es) y)). mine (subst (λ (z : Tag). Clash (b, m, k, []) z) (λ i. sym q.1 i) c))
      (λ (q : (h ≢ id) × (get_elem? ts h ≡ some y)). let same = λ (d : (0 ≡ y.1) ⊎ (Out 0 m es y.1 ⊎ Out y.1 y.2 y.3 0)). q.0 (sym (old id h (a, 0, m, es) y at q.1 (live, c.1, d))) in
      ⊎_elim (λ (e : m ≡ y.1). same (inr (inl (refl, inl (let e' : y.1 ≡ m = sym e in subst (λ (z : ℕ). m ≤ z) e (le_refl m))))))
      (λ e. ⊎_elim (λ (o : Out m k [] y.1). let z = o.0 in omega arith) (λ (o : Out y.1 y.2 y.3 m). same (inl (sym o.0))) e) c.2) (at_set ts id h (a, 0, m + 1, es) y f)

  both : (j h : ℕ) (x y : Tag) → get_elem? us j ≡ some x → get_elem? us h ≡ some y → Clash x y → j ≡ h
  both j h x y e f c = ⊎_elim
      (λ (p : (j ≡ id) × (Path Tag (a, 0, m + 1, es) x)). ⊎_elim (λ (q : (h ≡ id) × (Path Tag (a, 0, m + 1, es) y)). p.0 ∙ sym q.0)
      (λ (q : (h ≢ id) × (get_elem? ts h ≡ some y)). p.0 ∙ old id h (a, 0, m, es) y at q.1 (less y (subst (λ (z : Tag). Clash z y) (λ i. sym p.1 i) c))) (at_set ts id h (a, 0, m + 1, es) y f))
      (λ (p : (j ≢ id) × (get_elem? ts j ≡ some x)). ⊎_elim (λ (q : (h ≡ id) × (Path Tag (a, 0, m + 1, es) y)).
      sym (q.0 ∙ old id j (a, 0, m, es) x at p.1 (less x (flip x (a, 0, m + 1, es) (subst (λ (z : Tag). Clash x z) (λ i. sym q.1 i) c)))))
      (λ (q : (h ≢ id) × (get_elem? ts h ≡ some y)). old j h x y p.1 q.1 c) (at_set ts id h (a, 0, m + 1, es) y f))
      (at_set ts id j (a, 0, m + 1, es) x e)

  pub apart_split : NoClash (us ++ (b, m, k, []) ∷ [])
  apart_split j h x y e f c = ⊎_elim
      (λ (e' : get_elem? us j ≡ some x). ⊎_elim (λ (f' : get_elem? us h ≡ some y). both j h x y e' f' c)
      (λ (f' : (h ≡ length us) × (Path Tag (b, m, k, []) y)). absurd (mixed j x e' (flip x (b, m, k, []) (subst (λ (z : Tag). Clash x z) (λ i. sym f'.1 i) c)))) (at_end us (b, m, k, []) y h f))
      (λ (e' : (j ≡ length us) × (Path Tag (b, m, k, []) x)). ⊎_elim (λ (f' : get_elem? us h ≡ some y). absurd (mixed h y f' (subst (λ (z : Tag). Clash z y) (λ i. sym e'.1 i) c)))
      (λ (f' : (h ≡ length us) × (Path Tag (b, m, k, []) y)). e'.0 ∙ sym f'.0) (at_end us (b, m, k, []) y h f))
      (at_end us (b, m, k, []) x j e)

module _ {K : Type 0} (hist : K → List Entry) (came : K → K → List ℕ → Type 0) (p : Layout K) where
  abbrev St : Type 0
  St = State (Option K) (View K)

  abbrev RuleOf : St → Type 0
  RuleOf = Rule hist came p

  -- the first seat cuts off the seat of the station that it makes next
  pub splits : (id : ℕ) (v : View K) → v.role ≡ Reader → v.version ≡ 0 → v.station ≡ 0 → v.opened ≡ p.versions → 0 < v.made → v.made < p.versions → v.ended ≡ [] → Splits RuleOf id v (one_made v) (reader_of v)
  splits id v role zeroth at_zero all pos near ended s r at = let n : ℕ = p.stations in let c : ℕ = p.places in let kn = r.each_seat id v at in let pl = r.common.places in let m : Moment = now hist came p s r in
      let ir = in_role hist came p s r id v at Reader role in let se = seated hist came p s r id v at Reader role tt in
      let vs : List (View K) = set s.views id (one_made v) in let t : ℕ = v.made in let es : List ℕ = map version_of v.ended in
      let mine : cursor s.words v.station ≡ length v.seen = ir.cursor_is_length in let short = prefix_length v.seen r.log kn.seen_is_prefix in let few = pl.log_is_short in
      let low : r.holder ≡ 0 = dite (dec_le 1 r.holder) (λ le. let g = pl.lower_are_gone 0 le in let same : cursor s.words v.station ≡ cursor s.words 0 = ap (cursor s.words) at_zero in absurd (omega arith)) (λ gt. omega arith) in
      let unled : r.spans ≡ [] = holder_led m v.station r.common.led ir.led_nothing (at_zero ∙ sym low) in
      let d = r.common.doors in let whole : p.versions ≡ length r.seating = subst (Opened p.versions r.seating) unled r.common.turns.opened in
      let fresh_cursor : cursor s.words t ≡ 0 = se.unmade_is_new t record { first = zeroth; other = pos; not_made = le_refl t; near = near } in
      let none_of : (z : ℕ) → of_station z r.spans ≡ [] = λ z. ap (of_station z) unled in
      let alone : (z : ℕ) → get_elem? r.seating z ≡ some t → z ≡ t = λ z e. let b : z < p.versions = (let y = at_below r.seating z t e in omega arith) in one_who r.seating z z z t (d.first z b) e refl in
      let last : IsLastStation r.seating t t = record { has = d.first t near; none_later = λ z l e. let q : z ≡ t = alone z e in omega arith } in
      let mine' : Knows p m (one_made v) = record {
        seen_is_prefix = kn.seen_is_prefix;
        read_begins_next = kn.read_begins_next;
        floor_at_most_cursor = kn.floor_at_most_cursor;
        head_seen_at_most_head = kn.head_seen_at_most_head;
        owner_seen_at_most_head = kn.owner_seen_at_most_head;
        opened_at_most_open = kn.opened_at_most_open;
        in_role = kn.in_role;
        seated = λ l. record {
          start_is = se.start_is;
          places_are = se.places_are;
          opened_least = se.opened_least;
          last = se.last;
          spans_are = se.spans_are;
          unmade_is_new = λ z u. se.unmade_is_new z record { first = u.first; other = u.other; not_made = (let a = u.not_made in omega arith); near = u.near };
          others_are_gone = se.others_are_gone;
        };
        ended_is_past = kn.ended_is_past;
      } in
      let cut : Knows p m (reader_of v) = record {
        seen_is_prefix = λ i y e. absurd (some-ne-none y (sym e));
        read_begins_next = λ i y e. absurd (some-ne-none y (sym e));
        floor_at_most_cursor = λ z l. let q = zero_at (length v.floors) z in omega arith;
        head_seen_at_most_head = zero-le;
        owner_seen_at_most_head = omega arith;
        opened_at_most_open = kn.opened_at_most_open;
        in_role = record { cursor_is_length = fresh_cursor; led_nothing = none_of t; wrote_nothing = refl; freed_stays = λ k e. cc };
        seated = λ l. record {
          start_is = se.start_is;
          places_are = se.places_are;
          opened_least = se.opened_least;
          last = last;
          spans_are = sym (ap (of_version t) unled);
          unmade_is_new = λ z u. (let a = u.first in absurd (omega arith));
          others_are_gone = λ z has ne out. absurd (ne (alone z has));
        };
        ended_is_past = λ i y e. absurd (some-ne-none y (sym e));
      } in
      let empty : es ≡ [] = ap (map version_of) ended in
      let e₁ : map tag vs ≡ set (map tag s.views) id (Reader, 0, t + 1, es) = map-set tag s.views id (one_made v) ∙ (λ i. set (map tag s.views) id (role i, zeroth i, t + 1, es)) in
      let path : map tag (vs ++ reader_of v ∷ []) ≡ set (map tag s.views) id (Reader, 0, t + 1, es) ++ (Reader, t, 0, []) ∷ [] = map-append tag vs (reader_of v ∷ []) ∙ (λ i. e₁ i ++ (Reader, t, 0, []) ∷ []) in record {
        log = r.log;
        phase = r.phase;
        holder = r.holder;
        spans = r.spans;
        seating = r.seating;
        ready = r.ready;
        common = r.common;
        merge = merge_cut n c s.words r.log r.phase vs (reader_of v)
            (merge_turned n c s.views id v (one_made v) at s.words s.words r.log r.phase r.merge (λ _ _. refl) (λ e. r.merge.lead_tells id v at e) (λ e. r.merge.notes id v at e) (λ l. r.merge.floors_wide id v at l))
            refl (notes_none r.log [] [] refl) (length-replicate (length v.floors) 0 ∙ r.merge.floors_wide id v at (subst Live (sym role) tt));
        held_has_lead = λ e. let h = lead_stays s.views id r.holder v (one_made v) at (λ q. (q, refl)) (r.held_has_lead e) in (h.0, h.1, at_longer vs (reader_of v ∷ []) h.0 h.1 h.2, h.3, h.4);
        one_seat_a_version = subst NoClash (sym path) (apart_split (map tag s.views) id t 0 es Reader Reader tt pos empty (at_map tag s.views id v at ∙ (λ i. some (role i, zeroth i, t, es))) r.one_seat_a_version);
        each_seat = λ j u e. ⊎_elim (λ (e' : get_elem? vs j ≡ some u). ⊎_elim (λ (y : (j ≡ id) × (one_made v ≡ u)). subst (Knows p m) y.1 mine')
            (λ (y : (j ≢ id) × (get_elem? s.views j ≡ some u)). r.each_seat j u y.1) (at_set s.views id j (one_made v) u e'))
            (λ (e' : (j ≡ length vs) × (reader_of v ≡ u)). subst (Knows p m) e'.1 cut) (at_end vs (reader_of v) u j e);
      }

  -- a seat takes in the seat w, which has left
  pub joins : (id : ℕ) (v : View K) (other : ℕ) (w : View K) → Live v.role → w.role ≡ Gone → Joins RuleOf id v other w (rejoined v w) spent
  joins id v other w live gone s r at two at' = let n : ℕ = p.stations in let c : ℕ = p.places in let kn = r.each_seat id v at in let m : Moment = now hist came p s r in
      let there' : get_elem? s.views other ≡ some w = ⊎_elim (λ (q : (other ≡ id) × (rejoined v w ≡ w)). absurd (two q.0)) (λ (q : (other ≢ id) × (get_elem? s.views other ≡ some w)). q.1) (at_set s.views id other (rejoined v w) w at') in
      let kw = r.each_seat other w there' in let iw = in_role hist came p s r other w there' Gone gone in let sw = seated hist came p s r other w there' Gone gone tt in let se = kn.seated live in
      let vs : List (View K) = set s.views id (rejoined v w) in let es : List ℕ = map version_of v.ended in let gs : List ℕ = map version_of w.ended in let ts : List Tag = map tag s.views in
      let x : Past = past_of w in
      let told : IsPast m x = record { seen_is_prefix = kw.seen_is_prefix; read_begins_next = kw.read_begins_next; last = sw.last; cursor_is_gone = iw.cursor_is_gone; spans_are = sw.spans_are; before_later = iw.before_later } in
      let mine : Knows p m (rejoined v w) = record {
        seen_is_prefix = kn.seen_is_prefix;
        read_begins_next = kn.read_begins_next;
        floor_at_most_cursor = kn.floor_at_most_cursor;
        head_seen_at_most_head = kn.head_seen_at_most_head;
        owner_seen_at_most_head = kn.owner_seen_at_most_head;
        opened_at_most_open = kn.opened_at_most_open;
        in_role = kn.in_role;
        seated = λ l. record { start_is = se.start_is; places_are = se.places_are; opened_least = se.opened_least; last = se.last; spans_are = se.spans_are; unmade_is_new = se.unmade_is_new; others_are_gone = se.others_are_gone };
        ended_is_past = λ i y e. ⊎_elim (λ (q : get_elem? v.ended i ≡ some y). kn.ended_is_past i y q) (λ (q : (i ≡ length v.ended) × (x ≡ y)). subst (IsPast m) q.1 told) (at_end v.ended x y i e);
      } in
      let over : Knows p m spent = record {
        seen_is_prefix = λ i y e. absurd (some-ne-none y (sym e));
        read_begins_next = λ i y e. absurd (some-ne-none y (sym e));
        floor_at_most_cursor = λ z l. zero-le;
        head_seen_at_most_head = zero-le;
        owner_seen_at_most_head = omega arith;
        opened_at_most_open = zero-le;
        in_role = refl;
        seated = λ l. absurd l;
        ended_is_past = λ i y e. absurd (some-ne-none y (sym e));
      } in
      let e₁ : map tag vs ≡ set ts id (v.role, v.version, v.made, es ++ w.version ∷ []) = map-set tag s.views id (rejoined v w) ∙ (λ k. set ts id (v.role, v.version, v.made, map-append version_of v.ended (x ∷ []) k)) in
      let path : map tag (set vs other spent) ≡ set (set ts id (v.role, v.version, v.made, es ++ w.version ∷ [])) other (Spent, 0, 0, []) = map-set tag vs other spent ∙ (λ k. set (e₁ k) other (Spent, 0, 0, [])) in record {
        log = r.log;
        phase = r.phase;
        holder = r.holder;
        spans = r.spans;
        seating = r.seating;
        ready = r.ready;
        common = r.common;
        held_has_lead = λ e. lead_stays vs other r.holder w spent at' (λ q. absurd (subst Leads gone q)) (lead_stays s.views id r.holder v (rejoined v w) at (λ q. (q, refl)) (r.held_has_lead e));
        merge = merge_turned n c vs other w spent at' s.words s.words r.log r.phase
            (merge_turned n c s.views id v (rejoined v w) at s.words s.words r.log r.phase r.merge (λ _ _. refl) (λ e. r.merge.lead_tells id v at e) (λ e. r.merge.notes id v at e) (λ l. r.merge.floors_wide id v at l))
            (λ _ _. refl) (λ e. absurd e) (λ (e : Spent ≡ Reader). cc) (λ l. absurd l);
        one_seat_a_version = subst NoClash (sym path)
            (apart_join ts id other v.version v.made w.version w.made es gs v.role w.role live (subst Live (sym gone) tt) (at_map tag s.views id v at) (at_map tag s.views other w there') r.one_seat_a_version);
        each_seat = λ j u e. ⊎_elim (λ (y : (j ≡ other) × (spent ≡ u)). subst (Knows p m) y.1 over)
            (λ (y : (j ≢ other) × (get_elem? vs j ≡ some u)). ⊎_elim (λ (z : (j ≡ id) × (rejoined v w ≡ u)). subst (Knows p m) z.1 mine)
            (λ (z : (j ≢ id) × (get_elem? s.views j ≡ some u)). r.each_seat j u z.1) (at_set s.views id j (rejoined v w) u y.1))
            (at_set vs other j spent u e);
      }

  -- the room opens free at 0, with the kernel home
  pub opens : (ws : List ℕ) (k : K) → hist k ≡ [] → came p.start.value k [] → 0 < p.versions → p.versions + length (planned hist came p) ≤ p.stations → p.stations ≤ 16 → 0 < p.places
      → length ws ≡ table_words p.stations p.places → get_or ws 0 0 ≡ p.versions * 64 → ((i : ℕ) → i ≢ 0 → get_or ws i 0 ≡ 0) → RuleOf (opening ws (Some k ∷ []) (first p))
  opens ws k empty begun some_version all few pos wide word zeros = let u : ℕ = p.versions in let cur : (z : ℕ) → cursor ws z ≡ 0 = λ z. zeros (cursor_index z) (λ e. omega arith) in let long = length-numbers 0 u in record {
    log = [];
    phase = free;
    holder = 0;
    spans = [];
    seating = numbers 0 u;
    ready = u;
    common = record {
      events = [];
      log_is_spelt = refl;
      log_is_lawful = lawful_none;
      closed_has_ended = λ e. cc;
      home = (k, refl, empty, begun);
      places = record {
        some_place = pos;
        few_stations = few;
        words_are_all = wide;
        owner_is = word ∙ omega arith;
        holder_is_open = omega arith;
        lower_are_gone = λ s l. absurd (omega arith);
        lead_counts = λ e. cc;
        head_is_length = zeros head_index (λ e. omega arith);
        cursor_is_count_or_gone = λ s l. inl (let z = cur s in omega arith);
        head_in_window = λ s a l. omega arith;
        unread_stands = λ i s e a l le f. absurd (some-ne-none e (sym f));
        event_is_whole = λ i e f. absurd (some-ne-none e (sym f));
        log_is_short = omega arith;
      };
      led = record {
        tile = refl;
        rise = tt;
        last_is_holders = λ xs x e. (let a = ap (λ (z : List Span). length z) e in let b = length-append xs (x ∷ []) in absurd (omega arith));
        unled_is_free = λ e. refl;
      };
      doors = record {
        all = all;
        least = omega arith;
        first = λ s l. number_from u s l;
        is_version = λ s v e. (let q = numbers_below 0 u s v e in omega arith);
        ready_is = inl (sym long);
        shut = λ s a b. cur s;
        planned = omega arith;
      };
      turns = record { who_is = λ i x e. absurd (some-ne-none x (sym e)); opened = sym long; unhanded = λ e. cc; left_over = λ e. cc };
    };
    held_has_lead = λ e. cc;
    merge = record {
      writing = [];
      stamps = stamps_first p.places (stamp_word p.stations p.places ws) (λ l k. zeros (slot p.stations p.places l k 1) (slot_after p.stations p.places l k 1 0 (omega arith)));
      lead_tells = λ j v e role. absurd (subst (λ (z : View K). Leads z.role) (sym (one_at (first p) j v e).1) role);
      not_held = λ _. refl;
      notes = λ j v e _. subst (λ (z : View K). Notes [] z.seen z.noted z.missed z.read) (one_at (first p) j v e).1 (notes_none [] [] [] refl);
      floors_wide = λ j v e _. subst (λ (z : View K). length z.floors ≡ p.stations) (one_at (first p) j v e).1 (length-replicate p.stations 0);
    };
    one_seat_a_version = λ j k a b e f c. (one_at (tag (first p)) j a e).0 ∙ sym (one_at (tag (first p)) k b f).0;
    each_seat = λ j v e. subst (Knows p (as_of ws [] free 0 [] (numbers 0 u) u)) (one_at (first p) j v e).1 record {
      seen_is_prefix = λ i y f. absurd (some-ne-none y (sym f));
      read_begins_next = λ i y f. absurd (some-ne-none y (sym f));
      floor_at_most_cursor = λ s l. let z = zero_at p.stations s in omega arith;
      head_seen_at_most_head = omega arith;
      owner_seen_at_most_head = omega arith;
      opened_at_most_open = omega arith;
      in_role = record { cursor_is_length = cur 0; led_nothing = refl; wrote_nothing = refl; freed_stays = λ k e. cc };
      seated = λ l. record {
        start_is = refl;
        places_are = refl;
        opened_least = le_refl u;
        last = number_last u 0 some_version;
        spans_are = refl;
        unmade_is_new = λ t u. cur t;
        others_are_gone = λ z has ne out. absurd (let within = at_below (numbers 0 u) z 0 has in let q : z ≡ 0 = some-injective z 0 (sym (number_from u z (omega arith)) ∙ has) in ne q);
      };
      ended_is_past = λ i x f. absurd (some-ne-none x (sym f));
    };
  }
