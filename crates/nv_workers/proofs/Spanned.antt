-- The spans of a room by station and by version, and the stations that they opened.
use Rattle.std.proofs.Common.{◌≡◌, ◌≢◌, ◌∙◌, sym, ap, subst, refl, ℕ, zero, suc, ◌+◌, ◌<◌, ◌≤◌, inl, inr, Bool, true, false, List, [], ◌∷◌, ◌++◌, map, length, take, arith, eq-eqb, ne_eqb}
use Rattle.std.specs.Prelude.{◌==◌}
use Rattle.std.proofs.lemmas.Bool.{cases_lt}
use mathlib.Core.Option.{some, some-injective, some-ne-none}
use lib.ListN.{get_elem?}
use Rattle.nv_room.specs.declared.view.Span.{Span}
use Rattle.nv_room.specs.Spans.{Tiles, Rising, kept_if, of_station, of_version, Opens, Opened}
use Rattle.nv_words.specs.Spelling.{flag_bit}
use Rattle.nv_workers.specs.Ends.{ends_of, AreHandedOn}
use Rattle.nv_workers.proofs.Stations.{SpanFrom, Tile}

-- Lists

pub place_below : {A : Type 0} (xs : List A) (k : ℕ) (x : A) → get_elem? xs k ≡ some x → k < length xs
place_below [] k x h = absurd (some-ne-none x (sym h))
place_below (y ∷ xs) zero x h = omega arith
place_below (y ∷ xs) (suc k) x h = let l = place_below xs k x h in omega arith

pub taken_at : {A : Type 0} (n : ℕ) (xs : List A) (k : ℕ) (x : A) → get_elem? (take n xs) k ≡ some x → (k < n) × (get_elem? xs k ≡ some x)
taken_at zero xs k x h = absurd (some-ne-none x (sym h))
taken_at (suc n) [] k x h = absurd (some-ne-none x (sym h))
taken_at (suc n) (y ∷ xs) zero x h = (omega arith, h)
taken_at (suc n) (y ∷ xs) (suc k) x h = let r = taken_at n xs k x h in ((let l = r.0 in omega arith), r.1)

pub take_at : {A : Type 0} (n : ℕ) (xs : List A) (k : ℕ) (x : A) → k < n → get_elem? xs k ≡ some x → get_elem? (take n xs) k ≡ some x
take_at zero xs k x l h = absurd (omega arith)
take_at (suc n) [] k x l h = absurd (some-ne-none x (sym h))
take_at (suc n) (y ∷ xs) zero x l h = h
take_at (suc n) (y ∷ xs) (suc k) x l h = take_at n xs k x (omega arith) h

pub after_at : {A : Type 0} (prefix xs : List A) (x : A) → get_elem? (prefix ++ x ∷ xs) (length prefix) ≡ some x
after_at [] xs x = refl
after_at (y ∷ prefix) xs x = after_at prefix xs x

pub later_at : {A : Type 0} (prefix xs : List A) (k : ℕ) (x : A) → get_elem? xs k ≡ some x → (j : ℕ) × (get_elem? (prefix ++ xs) j ≡ some x)
later_at [] xs k x h = (k, h)
later_at (y ∷ prefix) xs k x h = let r = later_at prefix xs k x h in (suc r.0, r.1)

pub map_append : {A B : Type 0} (f : A → B) (xs ys : List A) → map f (xs ++ ys) ≡ map f xs ++ map f ys
map_append f [] ys = refl
map_append f (x ∷ xs) ys = ap (λ z. f x ∷ z) (map_append f xs ys)

-- the number at a place
abbrev pub who_of : List ℕ → ℕ → ℕ
who_of [] k = 0
who_of (w ∷ ws) zero = w
who_of (w ∷ ws) (suc k) = who_of ws k

pub who_is : (ws : List ℕ) (k w : ℕ) → get_elem? ws k ≡ some w → who_of ws k ≡ w
who_is [] k w h = absurd (some-ne-none w (sym h))
who_is (x ∷ ws) zero w h = some-injective x w h
who_is (x ∷ ws) (suc k) w h = who_is ws k w h

pub who_at : (ws : List ℕ) (k : ℕ) → k < length ws → get_elem? ws k ≡ some (who_of ws k)
who_at [] k h = absurd (omega arith)
who_at (w ∷ ws) zero h = refl
who_at (w ∷ ws) (suc k) h = who_at ws k (omega arith)

-- Spans of a station

others_skipped : (s : ℕ) (x : Span) (xs : List Span) → x.station ≢ s → of_station s (x ∷ xs) ≡ of_station s xs
others_skipped s x xs ne = ap (λ b. kept_if b x (of_station s xs)) (ne_eqb x.station s ne)

own_kept : (s : ℕ) (x : Span) (xs : List Span) → x.station ≡ s → of_station s (x ∷ xs) ≡ x ∷ of_station s xs
own_kept s x xs e = ap (λ b. kept_if b x (of_station s xs)) (eq-eqb x.station s e)

-- stations below a rising list have none of it
pub none_below : (low k : ℕ) (xs : List Span) → Rising low xs → k < low → of_station k xs ≡ []
none_below low k [] r h = refl
none_below low k (x ∷ xs) r h =
    let l = r.0 in
    others_skipped k x xs (λ e. absurd (omega arith)) ∙ none_below (x.station + 1) k xs r.1 (omega arith)

pub rising_at : (low : ℕ) (xs : List Span) (j : ℕ) (x : Span) → Rising low xs → get_elem? xs j ≡ some x → low ≤ x.station
rising_at low [] j x r h = absurd (some-ne-none x (sym h))
rising_at low (y ∷ xs) zero x r h = let e : y.station ≡ x.station = ap (λ (z : Span). z.station) (some-injective y x h) in let l = r.0 in omega arith
rising_at low (y ∷ xs) (suc j) x r h = let l = r.0 in let m = rising_at (y.station + 1) xs j x r.1 h in omega arith

-- all are of stations below this one
abbrev pub AreBelow : ℕ → List Span → Type 0
AreBelow k [] = Unit {0}
AreBelow k (x ∷ xs) = (x.station < k) × AreBelow k xs

pub below_more : (k : ℕ) (xs : List Span) → AreBelow k xs → AreBelow (k + 1) xs
below_more k [] b = tt
below_more k (x ∷ xs) b = ((let l = b.0 in omega arith), below_more k xs b.1)

pub below_last : (k : ℕ) (xs : List Span) (x : Span) → AreBelow k xs → x.station < k → AreBelow k (xs ++ x ∷ [])
below_last k [] x b l = (l, tt)
below_last k (y ∷ xs) x b l = (b.0, below_last k xs x b.1 l)

-- after spans of lower stations
pub after_below : (k : ℕ) (prefix xs : List Span) → AreBelow k prefix → of_station k (prefix ++ xs) ≡ of_station k xs
after_below k [] xs b = refl
after_below k (x ∷ prefix) xs b =
    let l = b.0 in
    others_skipped k x (prefix ++ xs) (λ e. absurd (omega arith)) ∙ after_below k prefix xs b.1

-- a rising list that begins with a span of this station has no other
pub only_first : (k : ℕ) (x : Span) (xs : List Span) → x.station ≡ k → Rising (x.station + 1) xs → of_station k (x ∷ xs) ≡ x ∷ []
only_first k x xs e r = own_kept k x xs e ∙ ap (λ y. x ∷ y) (none_below (x.station + 1) k xs r (omega arith))

-- a span stands among those of its station
pub among : (k : ℕ) (xs : List Span) (j : ℕ) (x : Span) → get_elem? xs j ≡ some x → x.station ≡ k → (i : ℕ) × (get_elem? (of_station k xs) i ≡ some x)
among k [] j x h e = absurd (some-ne-none x (sym h))
among k (y ∷ xs) zero x h e =
    let s : y ≡ x = some-injective y x h in
    let ye : y.station ≡ k = ap (λ (z : Span). z.station) s ∙ e in
    (0, ap (λ (z : List Span). get_elem? z 0) (own_kept k y xs ye) ∙ h)
among k (y ∷ xs) (suc j) x h e =
    let r = among k xs j x h e in
    elim (cases_lt y.station k) [
      | inl l ↦ (r.0, ap (λ (z : List Span). get_elem? z r.0) (others_skipped k y xs (λ q. absurd (omega arith))) ∙ r.1)
      | inr l ↦ elim (cases_lt k y.station) [
        | inl m ↦ (r.0, ap (λ (z : List Span). get_elem? z r.0) (others_skipped k y xs (λ q. absurd (omega arith))) ∙ r.1)
        | inr m ↦ (suc r.0, ap (λ (z : List Span). get_elem? z (suc r.0)) (own_kept k y xs (omega arith)) ∙ r.1)
      ]
    ]

pub none_there : (k : ℕ) (xs : List Span) → of_station k xs ≡ [] → (j : ℕ) (x : Span) → get_elem? xs j ≡ some x → x.station ≡ k → ⊥
none_there k xs n j x h e =
    let a = among k xs j x h e in
    some-ne-none x (sym (sym (ap (λ (z : List Span). get_elem? z a.0) n) ∙ a.1))

pub one_there : (k : ℕ) (xs : List Span) (y : Span) → of_station k xs ≡ y ∷ [] → (j : ℕ) (x : Span) → get_elem? xs j ≡ some x → x.station ≡ k → y ≡ x
one_there k xs y n j x h e =
    let a = among k xs j x h e in
    one_at a.0 (sym (ap (λ (z : List Span). get_elem? z a.0) n) ∙ a.1) where
      one_at : (i : ℕ) → get_elem? (y ∷ []) i ≡ some x → y ≡ x
      one_at zero q = some-injective y x q
      one_at (suc i) q = absurd (some-ne-none x (sym q))

none_made : (i : ℕ) (xs : List Span) → Rising i xs → ((j : ℕ) (x : Span) → get_elem? xs j ≡ some x → x.station < i) → xs ≡ []
none_made i [] r m = refl
none_made i (x ∷ xs) r m = let a = r.0 in let b = m 0 x refl in absurd (omega arith)

-- the spans by station tile what the list does
pub tile_by : (own : ℕ → List (ℕ × ℕ)) (m i x y : ℕ) (xs : List Span) → Tiles x xs y → Rising i xs → ((j : ℕ) (s : Span) → get_elem? xs j ≡ some s → s.station < i + m)
    → ((k : ℕ) → i ≤ k → k < i + m → own k ≡ map ends_of (of_station k xs)) → Tile own i m x y
tile_by own zero i x y xs t r d o =
    let e : xs ≡ [] = none_made i xs r (λ j s h. let l = d j s h in omega arith) in
    subst (λ (z : List Span). Tiles x z y) e t
tile_by own (suc m) i x y [] t r d o =
    let s : own i ≡ [] = o i (omega arith) (omega arith) in (
      x,
      subst (λ (z : List (ℕ × ℕ)). SpanFrom z x x) (sym s) refl,
      tile_by own m (i + 1) x y [] t tt (λ j z h. absurd (some-ne-none z (sym h))) (λ k p q. o k (omega arith) (omega arith)),
    )
tile_by own (suc m) i x y (z ∷ zs) t r d o = elim (cases_lt i z.station) [
  | inl l ↦ (
      let none : of_station i (z ∷ zs) ≡ [] = none_below (i + 1) i (z ∷ zs) ((omega arith), r.1) (omega arith) in
      let s : own i ≡ [] = o i (omega arith) (omega arith) ∙ ap (map ends_of) none in (
        x,
        subst (λ (q : List (ℕ × ℕ)). SpanFrom q x x) (sym s) refl,
        tile_by own m (i + 1) x y (z ∷ zs) t ((omega arith), r.1) (λ j w h. let b = d j w h in omega arith) (λ k p q. o k (omega arith) (omega arith)),
      ))
  | inr l ↦ (
      let a = r.0 in
      let e : z.station ≡ i = omega arith in
      let rest : of_station i zs ≡ [] = none_below (z.station + 1) i zs r.1 (omega arith) in
      let s : own i ≡ (z.from, z.to) ∷ [] = o i (omega arith) (omega arith) ∙ (ap (map ends_of) (own_kept i z zs e) ∙ ap (λ (q : List Span). (z.from, z.to) ∷ map ends_of q) rest) in
      let r' : Rising (i + 1) zs = subst (λ (n : ℕ). Rising (n + 1) zs) e r.1 in (
        z.to,
        subst (λ (q : List (ℕ × ℕ)). SpanFrom q x z.to) (sym s) (t.0, refl),
        tile_by own m (i + 1) z.to y zs t.2 r' (λ j w h. let b = d (suc j) w h in omega arith)
            (λ k p q. o k (omega arith) (omega arith) ∙ ap (map ends_of) (others_skipped k z zs (λ f. absurd (omega arith)))),
      ))
]

abbrev first_of : List (ℕ × ℕ) → ℕ × ℕ
first_of [] = (0, 0)
first_of (p ∷ s) = p

-- the span of a station that led
pub pair_at : (xs : List Span) (k a b : ℕ) → map ends_of (of_station k xs) ≡ (a, b) ∷ [] → (i : ℕ) × (x : Span) × (get_elem? xs i ≡ some x) × (x.station ≡ k) × (x.from ≡ a)
pair_at [] k a b h = cc
pair_at (x ∷ xs) k a b h = elim (cases_lt x.station k) [
  | inl l ↦ (let r = pair_at xs k a b (sym (ap (map ends_of) (others_skipped k x xs (λ e. absurd (omega arith)))) ∙ h) in (suc r.0, r.1, r.2, r.3, r.4))
  | inr l ↦ elim (cases_lt k x.station) [
    | inl m ↦ (let r = pair_at xs k a b (sym (ap (map ends_of) (others_skipped k x xs (λ e. absurd (omega arith)))) ∙ h) in (suc r.0, r.1, r.2, r.3, r.4))
    | inr m ↦ (let e : x.station ≡ k = omega arith in
        let q = sym (ap (map ends_of) (own_kept k x xs e)) ∙ h in
        (0, x, refl, e, ap (λ (z : List (ℕ × ℕ)). (first_of z).0) q))
  ]
]

-- Spans of a version

keep_append : (b : Bool) (x : Span) (xs ys : List Span) → kept_if b x (xs ++ ys) ≡ kept_if b x xs ++ ys
keep_append true x xs ys = refl
keep_append false x xs ys = refl

pub version_append : (i : ℕ) (xs ys : List Span) → of_version i (xs ++ ys) ≡ of_version i xs ++ of_version i ys
version_append i [] ys = refl
version_append i (x ∷ xs) ys = ap (kept_if (x.version == i) x) (version_append i xs ys) ∙ keep_append (x.version == i) x (of_version i xs) (of_version i ys)

pub version_own : (i : ℕ) (x : Span) (xs : List Span) → x.version ≡ i → of_version i (x ∷ xs) ≡ x ∷ of_version i xs
version_own i x xs e = ap (λ b. kept_if b x (of_version i xs)) (eq-eqb x.version i e)

pub version_none : (i : ℕ) (xs : List Span) → ((j : ℕ) (x : Span) → get_elem? xs j ≡ some x → x.version ≢ i) → of_version i xs ≡ []
version_none i [] f = refl
version_none i (x ∷ xs) f = ap (λ b. kept_if b x (of_version i xs)) (ne_eqb x.version i (f 0 x refl)) ∙ version_none i xs (λ j y h. f (suc j) y h)

-- what is of a version is a span of the list
from_kept : (xs : List Span) (y x : Span) (ys : List Span) (b : Bool) (j : ℕ) → get_elem? (kept_if b y ys) j ≡ some x
    → ((n : ℕ) → get_elem? ys n ≡ some x → (k : ℕ) × (get_elem? xs k ≡ some x)) → (k : ℕ) × (get_elem? (y ∷ xs) k ≡ some x)
from_kept xs y x ys true zero q ih = (0, q)
from_kept xs y x ys true (suc n) q ih = let r = ih n q in (suc r.0, r.1)
from_kept xs y x ys false n q ih = let r = ih n q in (suc r.0, r.1)

pub from_version : (i : ℕ) (xs : List Span) (j : ℕ) (x : Span) → get_elem? (of_version i xs) j ≡ some x → (k : ℕ) × (get_elem? xs k ≡ some x)
from_version i [] j x h = absurd (some-ne-none x (sym h))
from_version i (y ∷ xs) j x h = from_kept xs y x (of_version i xs) (y.version == i) j h (λ n q. from_version i xs n x q)

kept_there : (b : Bool) (y x : Span) (ys : List Span) → (k : ℕ) × (get_elem? ys k ≡ some x) → (k : ℕ) × (get_elem? (kept_if b y ys) k ≡ some x)
kept_there true y x ys there = (suc there.0, there.1)
kept_there false y x ys there = there

-- and a span of the list is one of its version
pub version_there : (i : ℕ) (xs : List Span) (j : ℕ) (x : Span) → get_elem? xs j ≡ some x → x.version ≡ i → (k : ℕ) × (get_elem? (of_version i xs) k ≡ some x)
version_there i [] j x e v = absurd (some-ne-none x (sym e))
version_there i (y ∷ xs) zero x e v =
    let same : y ≡ x = some-injective y x e in
    (0, ap (λ (zs : List Span). get_elem? zs 0) (version_own i y xs (ap (λ (z : Span). z.version) same ∙ v)) ∙ ap (λ (z : Span). some z) same)
version_there i (y ∷ xs) (suc j) x e v = kept_there (y.version == i) y x (of_version i xs) (version_there i xs j x e v)

pub handed_prefix : (prefix : List Span) (x : Span) (back : List Span) → AreHandedOn (prefix ++ x ∷ back) → x.handed ≡ true
handed_prefix [] x back a = a.0
handed_prefix (y ∷ prefix) x back a = handed_prefix prefix x back a.1

-- Stations that spans opened

module _ (seating : List ℕ) where
  opened_if : (x : Span) (xs : List Span) (next m : ℕ) (b : Bool) → x.handed ≡ b → (x.handed ≡ true → Opens next seating x) → next ≤ m
      → ((n : ℕ) → n ≡ next + flag_bit b → n ≤ m → (j : ℕ) × (y : Span) × (get_elem? xs j ≡ some y) × Opens m seating y)
      → (j : ℕ) × (y : Span) × (get_elem? (x ∷ xs) j ≡ some y) × Opens m seating y
  opened_if x xs next m true e o l ih = elim (cases_lt next m) [
    | inl k ↦ (let r = ih (next + flag_bit true) refl (omega arith) in (suc r.0, r.1, r.2, r.3))
    | inr k ↦ (let q : next ≡ m = omega arith in (0, x, refl, subst (λ (n : ℕ). Opens n seating x) q (o e)))
  ]
  opened_if x xs next m false e o l ih = let r = ih (next + flag_bit false) refl (omega arith) in (suc r.0, r.1, r.2, r.3)

  -- each later station was opened by a span
  pub opened_at : (xs : List Span) (next m : ℕ) → Opened next seating xs → next ≤ m → m < length seating
      → (j : ℕ) × (y : Span) × (get_elem? xs j ≡ some y) × Opens m seating y
  opened_at [] next m o l b = absurd (omega (arith, o))
  opened_at (x ∷ xs) next m o l b = opened_if x xs next m x.handed refl o.0 l
      (λ n e k. opened_at xs n m (subst (λ (z : ℕ). Opened z seating xs) (sym e) o.1) k b)

  none_if : (x : Span) (next : ℕ) (b : Bool) → x.handed ≡ b → next ≤ x.station → (x.handed ≡ true → Opens next seating x) → next + flag_bit x.handed ≡ next
  none_if x next true e l o = let t = taken_at next seating x.station x.version (o e).0.has in absurd (let u = t.0 in omega arith)
  none_if x next false e l o = let z : flag_bit x.handed ≡ flag_bit false = ap flag_bit e in omega (arith, z)

  -- spans of no open station open none
  pub none_opened : (xs : List Span) (next k : ℕ) → Rising k xs → next ≤ k → Opened next seating xs → next ≡ length seating
  none_opened [] next k r l o = o
  none_opened (x ∷ xs) next k r l o =
      let lx = r.0 in
      let e : next + flag_bit x.handed ≡ next = none_if x next x.handed refl (omega arith) o.0 in
      none_opened xs next (x.station + 1) r.1 (omega arith) (subst (λ (z : ℕ). Opened z seating xs) e o.1)

  module _ (versions : ℕ) (spans : List Span) (first : (k : ℕ) → k < versions → get_elem? seating k ≡ some k) (opened : Opened versions seating spans) where
    -- each station's version is one of them
    below_by : (n m : ℕ) → m < n → m < length seating → who_of seating m < versions
    below_by zero m l b = absurd (omega arith)
    below_by (suc n) m l b = elim (cases_lt m versions) [
      | inl v ↦ (let e = who_is seating m m (first m v) in omega (arith, e))
      | inr v ↦ (
          let o = opened_at spans versions m opened v b in
          let t = taken_at m seating o.1.station o.1.version o.3.0.has in
          let near = t.0 in
          let r = below_by n o.1.station (omega arith) (omega arith) in
          let a = who_is seating o.1.station o.1.version t.1 in
          let c = who_is seating m o.1.version o.3.1 in
          omega (arith, a, c))
    ]

    pub who_below : (m : ℕ) → m < length seating → who_of seating m < versions
    who_below m b = below_by (m + 1) m (omega arith) b

    -- a station without a span is its version's last one
    later_by : (n m k i : ℕ) → m < n → k < m → get_elem? seating k ≡ some i → get_elem? seating m ≡ some i
        → ((j : ℕ) (x : Span) → get_elem? spans j ≡ some x → x.station ≡ k → ⊥) → ⊥
    later_by zero m k i l km hk hm none = absurd (omega arith)
    later_by (suc n) m k i l km hk hm none = elim (cases_lt m versions) [
      | inl v ↦ (
          let a : m ≡ i = some-injective m i (sym (first m v) ∙ hm) in
          let b : k ≡ i = some-injective k i (sym (first k (omega arith)) ∙ hk) in
          absurd (omega arith))
      | inr v ↦ (
          let o = opened_at spans versions m opened v (place_below seating m i hm) in
          let x = o.1 in
          let vi : x.version ≡ i = some-injective x.version i (sym o.3.1 ∙ hm) in
          let t = taken_at m seating x.station x.version o.3.0.has in
          let xi : get_elem? seating x.station ≡ some i = t.1 ∙ ap (λ (z : ℕ). some z) vi in
          elim (cases_lt x.station k) [
            | inl a ↦ o.3.0.none_later k a (take_at m seating k x.version km (hk ∙ ap (λ (z : ℕ). some z) (sym vi)))
            | inr a ↦ elim (cases_lt k x.station) [
              | inl b ↦ (let near = t.0 in later_by n x.station k i (omega arith) b hk xi none)
              | inr b ↦ none o.0 x o.2 (omega arith)
            ]
          ])
    ]

    pub none_later : (m k i : ℕ) → k < m → get_elem? seating k ≡ some i → get_elem? seating m ≡ some i
        → ((j : ℕ) (x : Span) → get_elem? spans j ≡ some x → x.station ≡ k → ⊥) → ⊥
    none_later m k i l hk hm none = later_by (m + 1) m k i (omega arith) l hk hm none
