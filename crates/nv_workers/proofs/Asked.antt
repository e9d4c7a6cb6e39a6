-- The lengths that were asked for: where leaders gave up the lead and no length is planned, as the spans of all versions tell.
use Rattle.std.proofs.Common.{◌≡◌, ◌∙◌, sym, ap, subst, refl, arith, length-append}
use Rattle.std.specs.Prelude.{ℕ, zero, suc, ◌<◌, ◌≤◌, Bool, true, false, not, ◌&&◌, ◌||◌, ◌==◌, nat_lt, List, [], ◌∷◌, ◌++◌, map, length, if◌then◌else◌}
use Rattle.std.proofs.lemmas.Bool.Decides.{nat_tests}
use mathlib.Core.Option.{some, some-injective, some-ne-none}
use lib.ListN.{get_elem?}
use Rattle.nv_room.specs.declared.view.Span.{Span}
use Rattle.nv_calls.specs.Hands.{has}
use Rattle.nv_room.specs.Planned.{asked_at, asked_in}
use Rattle.nv_room.specs.Spans.{Tiles, of_version}
use Rattle.nv_room.proofs.Askings.{asked_append}
use Rattle.nv_replay.proofs.Numbers.{eq_same}
use Rattle.nv_workers.specs.Ends.{ends_of, AreHandedOn, Gap, AreGivenUp, AsPlanned}
use Rattle.nv_workers.proofs.Spanned.{version_there}
use Rattle.nv_workers.proofs.Keeping.{has_both, and_no}

-- ---- the spans tile the log

tile_above : (a b : ℕ) (xs : List Span) → Tiles a xs b → (k : ℕ) (x : Span) → get_elem? xs k ≡ some x → (a ≤ x.from) × (x.from ≤ x.to)
tile_above a b [] t k x e = absurd (some-ne-none x (sym e))
tile_above a b (z ∷ zs) t zero x e =
    let same : z ≡ x = some-injective z x e in
    let one = t.0 in
    let two = t.1 in
    subst (λ (s : Span). (a ≤ s.from) × (s.from ≤ s.to)) same (omega arith, two)
tile_above a b (z ∷ zs) t (suc k) x e =
    let r = tile_above z.to b zs t.2 k x e in
    let one = t.0 in
    let two = t.1 in
    let low = r.0 in
    (omega arith, r.1)

-- strictly inside a span no other one ends
tile_gap : (a b : ℕ) (xs : List Span) → Tiles a xs b → (j : ℕ) (y : Span) (k : ℕ) (x : Span) → get_elem? xs j ≡ some y → get_elem? xs k ≡ some x → y.from < x.to → x.to < y.to → ⊥
tile_gap a b [] t j y k x e f l m = absurd (some-ne-none y (sym e))
tile_gap a b (z ∷ zs) t zero y zero x e f l m =
    let same : y ≡ x = sym (some-injective z y e) ∙ some-injective z x f in
    absurd (omega (arith, m, ap (λ (s : Span). s.to) same))
tile_gap a b (z ∷ zs) t zero y (suc k) x e f l m =
    let same : z ≡ y = some-injective z y e in
    let r = tile_above z.to b zs t.2 k x f in
    absurd (omega (arith, r.0, r.1, m, ap (λ (s : Span). s.to) same))
tile_gap a b (z ∷ zs) t (suc j) y zero x e f l m =
    let same : z ≡ x = some-injective z x f in
    let r = tile_above z.to b zs t.2 j y e in
    absurd (omega (arith, r.0, l, ap (λ (s : Span). s.to) same))
tile_gap a b (z ∷ zs) t (suc j) y (suc k) x e f l m = tile_gap z.to b zs t.2 j y k x e f l m

-- and no other one with an event ends where it does
tile_end : (a b : ℕ) (xs : List Span) → Tiles a xs b → (j : ℕ) (y : Span) (k : ℕ) (x : Span) → get_elem? xs j ≡ some y → get_elem? xs k ≡ some x → y.from < y.to → x.from < x.to → x.to ≡ y.to → x ≡ y
tile_end a b [] t j y k x e f l m q = absurd (some-ne-none y (sym e))
tile_end a b (z ∷ zs) t zero y zero x e f l m q = sym (some-injective z x f) ∙ some-injective z y e
tile_end a b (z ∷ zs) t zero y (suc k) x e f l m q =
    let same : z ≡ y = some-injective z y e in
    let r = tile_above z.to b zs t.2 k x f in
    absurd (omega (arith, r.0, m, q, ap (λ (s : Span). s.to) same))
tile_end a b (z ∷ zs) t (suc j) y zero x e f l m q =
    let same : z ≡ x = some-injective z x f in
    let r = tile_above z.to b zs t.2 j y e in
    absurd (omega (arith, r.0, l, q, ap (λ (s : Span). s.to) same))
tile_end a b (z ∷ zs) t (suc j) y (suc k) x e f l m q = tile_end z.to b zs t.2 j y k x e f l m q

-- ---- which lengths were asked for

module _ (planned : List ℕ) where
  -- one that no span that was handed over ends at is none of them
  none_asked_in : (xs : List Span) (n : ℕ) → ((k : ℕ) (x : Span) → get_elem? xs k ≡ some x → x.handed ≡ true → x.from < x.to → x.to ≡ n → ⊥) → has (asked_in planned xs) n ≡ false
  none_asked_in [] n apart = refl
  none_asked_in (x ∷ xs) n apart = step (x.handed) (nat_lt x.from x.to) (has planned x.to) refl refl (none_asked_in xs n (λ k y e. apart (suc k) y e)) where
    differs : (b : Bool) → (x.to == n) ≡ b → x.handed ≡ true → nat_lt x.from x.to ≡ true → has (asked_in planned xs) n ≡ false → (b || has (asked_in planned xs) n) ≡ false
    differs false q h l later = later
    differs true q h l later = absurd (apart 0 x refl h (let r : x.from < x.to = grind (arith, nat_tests) in r) (eq_same x.to n q))

    step : (h l p : Bool) → x.handed ≡ h → nat_lt x.from x.to ≡ l → has (asked_in planned xs) n ≡ false → has (if h && (l && not p) then x.to ∷ asked_in planned xs else asked_in planned xs) n ≡ false
    step false l p h k later = later
    step true false p h k later = later
    step true true true h k later = later
    step true true false h k later = differs (x.to == n) refl h k later

  same_number : (n : ℕ) → (n == n) ≡ true
  same_number n = grind (arith, nat_tests)

  or_yes : (a : Bool) → (a || true) ≡ true
  or_yes true = refl
  or_yes false = refl

  -- where a span with an event was handed over, that is planned or was asked for
  asked_there : (xs : List Span) (k : ℕ) (x : Span) → get_elem? xs k ≡ some x → x.handed ≡ true → x.from < x.to → has planned x.to ≡ false → has (asked_in planned xs) x.to ≡ true
  asked_there [] k x e h l p = absurd (some-ne-none x (sym e))
  asked_there (z ∷ zs) zero x e h l p =
      let same : z ≡ x = some-injective z x e in
      let hz : z.handed ≡ true = ap (λ (s : Span). s.handed) same ∙ h in
      let more : z.from < z.to = omega (arith, l, ap (λ (s : Span). s.from) same, ap (λ (s : Span). s.to) same) in
      let lz : nat_lt z.from z.to ≡ true = grind (arith, nat_tests) in
      let pz : has planned z.to ≡ false = ap (λ (s : Span). has planned s.to) same ∙ p in
      let one : asked_at planned z ≡ true = rw (hz, lz, pz) refl in
      let is : asked_in planned (z ∷ zs) ≡ z.to ∷ asked_in planned zs = rw one refl in
      ap (λ (ns : List ℕ). has ns x.to) is ∙ ap (λ (s : Span). has (z.to ∷ asked_in planned zs) s.to) (sym same) ∙ rw (same_number z.to) refl
  asked_there (z ∷ zs) (suc k) x e h l p = step (asked_at planned z) (asked_there zs k x e h l p) where
    step : (b : Bool) → has (asked_in planned zs) x.to ≡ true → has (if b then z.to ∷ asked_in planned zs else asked_in planned zs) x.to ≡ true
    step true later = ap (λ (c : Bool). (z.to == x.to) || c) later ∙ or_yes (z.to == x.to)
    step false later = later

  given_at : (xs : List Span) (k : ℕ) (x : Span) → get_elem? xs k ≡ some x → x.handed ≡ true → x.from < x.to → has (planned ++ asked_in planned xs) x.to ≡ true
  given_at xs k x e h l = has_both planned (asked_in planned xs) x.to ∙ step (has planned x.to) refl where
    step : (b : Bool) → has planned x.to ≡ b → (b || has (asked_in planned xs) x.to) ≡ true
    step true q = refl
    step false q = asked_there xs k x e h l q

  -- ---- of one version

  gap_of : (b : ℕ) (xs : List Span) → Tiles 0 xs b → (j : ℕ) (y : Span) → get_elem? xs j ≡ some y → Gap (asked_in planned xs) y.from y.to
  gap_of b xs t j y e n low high = none_asked_in xs n (λ k x f h l q. tile_gap 0 b xs t j y k x e f (omega (arith, low, q)) (omega (arith, high, q)))

  -- one that wasn't handed over ends at none of them
  kept_of : (b : ℕ) (xs : List Span) → Tiles 0 xs b → (j : ℕ) (y : Span) → get_elem? xs j ≡ some y → y.handed ≡ false → y.from < y.to → has (asked_in planned xs) y.to ≡ false
  kept_of b xs t j y e kept event = none_asked_in xs y.to (λ k x f h l q. let same = tile_end 0 b xs t j y k x e f event l q in let clash : true ≡ false = sym h ∙ (ap (λ (s : Span). s.handed) same ∙ kept) in cc)

pub at_front : (xs ys : List Span) (j : ℕ) (x : Span) → get_elem? xs j ≡ some x → get_elem? (xs ++ ys) j ≡ some x
at_front [] ys j x e = absurd (some-ne-none x (sym e))
at_front (z ∷ xs) ys zero x e = e
at_front (z ∷ xs) ys (suc j) x e = at_front xs ys j x e

-- the part of these spans that this is
part_at : (ys : List Span) (prefix back : List (ℕ × ℕ)) (p : ℕ × ℕ) → map ends_of ys ≡ prefix ++ p ∷ back → AreHandedOn ys → (j : ℕ) × (y : Span) × (get_elem? ys j ≡ some y) × (ends_of y ≡ p) × (y.handed ≡ true)
part_at [] prefix back p e on = absurd (omega (arith, ap length e, length-append prefix (p ∷ back)))
part_at (y ∷ ys) [] back p e on = let q : ends_of y ≡ p = cc in (0, y, refl, q, on.0)
part_at (y ∷ ys) (r ∷ prefix) back p e on =
    let t : map ends_of ys ≡ prefix ++ p ∷ back = cc in
    let q = part_at ys prefix back p t on.1 in
    (suc q.0, q.1, q.2, q.3, q.4)

-- the parts that a version gave up are given up where they end
pub given_up : (planned : List ℕ) (b : ℕ) (xs : List Span) → Tiles 0 xs b → (ys : List Span) → ((j : ℕ) (y : Span) → get_elem? ys j ≡ some y → (k : ℕ) × (get_elem? xs k ≡ some y)) → AreHandedOn ys
    → AreGivenUp planned (asked_in planned xs) (map ends_of ys)
given_up planned b xs t ys inside on prefix back from to e more =
    let p = part_at ys prefix back (from, to) e on in
    let y : Span = p.1 in
    let low : y.from ≡ from = ap (λ (z : ℕ × ℕ). z.0) p.3 in
    let high : y.to ≡ to = ap (λ (z : ℕ × ℕ). z.1) p.3 in
    let k = inside p.0 y p.2 in
    let event : y.from < y.to = omega (arith, more, low, high) in (
      subst (λ (z : ℕ × ℕ). Gap (asked_in planned xs) z.0 z.1) p.3 (gap_of planned b xs t k.0 y k.1),
      subst (λ (n : ℕ). has (planned ++ asked_in planned xs) n ≡ true) high (given_at planned xs k.0 y k.1 p.4 event),
    )

pub gap_within : (planned : List ℕ) (b : ℕ) (xs : List Span) → Tiles 0 xs b → (j : ℕ) (y : Span) → get_elem? xs j ≡ some y → Gap (asked_in planned xs) y.from y.to
gap_within planned b xs t j y e = gap_of planned b xs t j y e

pub kept_end : (planned : List ℕ) (b : ℕ) (xs : List Span) → Tiles 0 xs b → (j : ℕ) (y : Span) → get_elem? xs j ≡ some y → y.handed ≡ false → y.from < y.to → has (asked_in planned xs) y.to ≡ false
kept_end planned b xs t j y e kept event = kept_of planned b xs t j y e kept event

-- ---- where none was asked for

-- one span more, at whose end none was asked for
pub as_planned_more : (on_demand : Bool) (planned : List ℕ) (xs : List Span) (x : Span) → AsPlanned on_demand planned xs → (on_demand ≡ false → asked_at planned x ≡ false)
    → AsPlanned on_demand planned (xs ++ x ∷ [])
as_planned_more on_demand planned xs x all last off =
    asked_append planned xs (x ∷ []) ∙ ((λ i. all off i ++ asked_in planned (x ∷ [])) ∙ ap (λ (b : Bool). if b then x.to ∷ [] else []) (last off))

-- at a planned length none was asked for
pub planned_at : (planned : List ℕ) (x : Span) → has planned x.to ≡ true → asked_at planned x ≡ false
planned_at planned x p = ap (λ (b : Bool). x.handed && (nat_lt x.from x.to && not b)) p ∙ (ap (λ (b : Bool). x.handed && b) (and_no (nat_lt x.from x.to)) ∙ and_no x.handed)

none_each : (planned : List ℕ) (xs : List Span) → asked_in planned xs ≡ [] → (k : ℕ) (x : Span) → get_elem? xs k ≡ some x → asked_at planned x ≡ false
none_each planned [] unasked k x e = absurd (some-ne-none x (sym e))
none_each planned (z ∷ zs) unasked k x e = step (asked_at planned z) refl unasked k e (λ later j f. none_each planned zs later j x f) where
  step : (b : Bool) → asked_at planned z ≡ b → (if b then z.to ∷ asked_in planned zs else asked_in planned zs) ≡ [] → (k : ℕ) → get_elem? (z ∷ zs) k ≡ some x
      → (asked_in planned zs ≡ [] → (j : ℕ) → get_elem? zs j ≡ some x → asked_at planned x ≡ false) → asked_at planned x ≡ false
  step true q h k e later = cc
  step false q h zero e later = ap (λ (s : Span). asked_at planned s) (sym (some-injective z x e)) ∙ q
  step false q h (suc k) e later = later h k e

none_all : (planned : List ℕ) (xs : List Span) → ((k : ℕ) (x : Span) → get_elem? xs k ≡ some x → asked_at planned x ≡ false) → asked_in planned xs ≡ []
none_all planned [] each = refl
none_all planned (x ∷ xs) each = ap (λ (b : Bool). if b then x.to ∷ asked_in planned xs else asked_in planned xs) (each 0 x refl) ∙ none_all planned xs (λ k y e. each (suc k) y e)

-- where no version's hand-over was asked for, none of all was
pub unasked : (planned : List ℕ) (xs : List Span) → ((j : ℕ) (x : Span) → get_elem? xs j ≡ some x → asked_in planned (of_version x.version xs) ≡ []) → asked_in planned xs ≡ []
unasked planned xs each = none_all planned xs (λ j x e. let there = version_there x.version xs j x e refl in none_each planned (of_version x.version xs) (each j x e) there.0 x there.1)
