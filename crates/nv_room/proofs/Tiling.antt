-- Spans that tile the log: one is added at the end, the last grows, and which are a station's.
use Rattle.std.proofs.Common.{◌≡◌, ℕ, zero, suc, ◌+◌, ◌<◌, ◌≤◌, ◌≢◌, ◌⊎◌, Bool, true, false, eq-eqb, ne_eqb, List, [], ◌∷◌, ◌++◌, length, sym, refl, ap, ◌∙◌, subst, inl, inr, ⊎_elim, arith, length-append}
use Rattle.std.proofs.lemmas.List.{append-nil, take-append-le, take_all}
use Rattle.std.specs.Prelude.{◌==◌}
use mathlib.Core.Option.{some, some-injective, some-ne-none}
use lib.ListN.{get_elem?}
use Rattle.nv_room.specs.declared.view.Span.{Span}
use Rattle.atomic_table.proofs.Lists.{at_longer, at_last}
use Rattle.nv_words.specs.Spelling.{flag_bit}
use Rattle.nv_room.specs.Spans.{span, Tiles, Rising, kept_if, spans_with, of_station, of_version, spans_grown, handed_on, IsLastStation, Opened}
use Rattle.nv_room.proofs.Lists.{at_end, at_below}

pub tiles_more : (a n s v : ℕ) (xs : List Span) → Tiles a xs n → Tiles a (xs ++ span s v n n ∷ []) n
tiles_more a n s v [] t = (sym t, (omega arith), refl)
tiles_more a n s v (x ∷ xs) t = (t.0, t.1, tiles_more x.to n s v xs t.2)

pub tiles_none : (a n : ℕ) (xs : List Span) → Tiles a xs n → xs ≡ [] → a ≡ n
tiles_none a n xs t e = subst (λ (z : List Span). Tiles a z n) e t

pub grown_end : (xs : List Span) (x : Span) → spans_grown (xs ++ x ∷ []) ≡ xs ++ (record x { to = x.to + 1 }) ∷ []
grown_end [] x = refl
grown_end (y ∷ []) x = refl
grown_end (y ∷ z ∷ zs) x = ap (λ (q : List Span). y ∷ q) (grown_end (z ∷ zs) x)

pub tiles_grown : (a n : ℕ) (xs : List Span) (x : Span) → Tiles a (xs ++ x ∷ []) n → Tiles a (xs ++ (record x { to = x.to + 1 }) ∷ []) (n + 1)
tiles_grown a n [] x k = (k.0, (let l = k.1 in omega arith), ap (λ (z : ℕ). z + 1) k.2)
tiles_grown a n (y ∷ ys) x k = (k.0, k.1, tiles_grown y.to n ys x k.2)

pub rising_grown : (low : ℕ) (xs : List Span) (x : Span) → Rising low (xs ++ x ∷ []) → Rising low (xs ++ (record x { to = x.to + 1 }) ∷ [])
rising_grown low [] x k = k
rising_grown low (y ∷ ys) x k = (k.0, rising_grown (y.station + 1) ys x k.1)

pub rising_more : (low s v n : ℕ) (xs : List Span) → Rising low xs → low ≤ s → ((i : ℕ) (x : Span) → get_elem? xs i ≡ some x → x.station < s) → Rising low (xs ++ span s v n n ∷ [])
rising_more low s v n [] r l b = (l, tt)
rising_more low s v n (x ∷ xs) r l b = (r.0, rising_more (x.station + 1) s v n xs r.1 (let q = b 0 x refl in omega arith) (λ i y e. b (suc i) y e))

-- a list is empty, or has a last
pub last_of : {A : Type 0} (l : List A) → (l ≡ []) ⊎ ((xs : List A) × (x : A) × (l ≡ xs ++ x ∷ []))
last_of [] = inl refl
last_of (y ∷ ys) = ⊎_elim (λ (e : ys ≡ []). inr ([], y, ap (λ z. y ∷ z) e)) (λ e. inr (y ∷ e.0, e.1, ap (λ z. y ∷ z) e.2)) (last_of ys)

pub last_apart : {A : Type 0} (xs ys : List A) (x y : A) → xs ++ x ∷ [] ≡ ys ++ y ∷ [] → (xs ≡ ys) × (x ≡ y)
last_apart [] [] x y e = (refl, cc)
last_apart [] (b ∷ []) x y e = cc
last_apart [] (b ∷ c ∷ ys) x y e = cc
last_apart (a ∷ []) [] x y e = cc
last_apart (a ∷ c ∷ xs) [] x y e = cc
last_apart (a ∷ xs) (b ∷ ys) x y e = let t : xs ++ x ∷ [] ≡ ys ++ y ∷ [] = cc in let h : a ≡ b = cc in let r = last_apart xs ys x y t in ((λ i. h i ∷ r.0 i), r.1)

-- the last station is the highest
pub low_rises : (low : ℕ) (xs : List Span) (x : Span) → Rising low (xs ++ x ∷ []) → low ≤ x.station
low_rises low [] x r = r.0
low_rises low (y ∷ ys) x r = let q = low_rises (y.station + 1) ys x r.1 in let p = r.0 in omega arith

pub below_last : (low : ℕ) (xs : List Span) (x : Span) → Rising low (xs ++ x ∷ []) → (i : ℕ) (y : Span) → get_elem? (xs ++ x ∷ []) i ≡ some y → y.station ≤ x.station
below_last low [] x r zero y e = let q : x ≡ y = some-injective x y e in let p = ap (λ (z : Span). z.station) q in omega arith
below_last low [] x r (suc i) y e = absurd (some-ne-none y (sym e))
below_last low (z ∷ zs) x r zero y e = let q : z ≡ y = some-injective z y e in let p = ap (λ (w : Span). w.station) q in let l = low_rises (z.station + 1) zs x r.1 in omega arith
below_last low (z ∷ zs) x r (suc i) y e = below_last (z.station + 1) zs x r.1 i y e

-- A station's or a version's spans

module _ (number : Span → ℕ) where
  others_skipped : (k : ℕ) (x : Span) (xs : List Span) → number x ≢ k → spans_with number k (x ∷ xs) ≡ spans_with number k xs
  others_skipped k x xs ne = ap (λ b. kept_if b x (spans_with number k xs)) (ne_eqb (number x) k ne)

  own_kept : (k : ℕ) (x : Span) (xs : List Span) → number x ≡ k → spans_with number k (x ∷ xs) ≡ x ∷ spans_with number k xs
  own_kept k x xs e = ap (λ b. kept_if b x (spans_with number k xs)) (eq-eqb (number x) k e)

  kept_append : (b : Bool) (x : Span) (ys zs : List Span) → kept_if b x (ys ++ zs) ≡ kept_if b x ys ++ zs
  kept_append true x ys zs = refl
  kept_append false x ys zs = refl

  with_append : (k : ℕ) (xs ys : List Span) → spans_with number k (xs ++ ys) ≡ spans_with number k xs ++ spans_with number k ys
  with_append k [] ys = refl
  with_append k (x ∷ xs) ys = ap (kept_if (number x == k) x) (with_append k xs ys) ∙ kept_append (number x == k) x (spans_with number k xs) (spans_with number k ys)

  pub with_more_other : (k : ℕ) (xs : List Span) (x : Span) → number x ≢ k → spans_with number k (xs ++ x ∷ []) ≡ spans_with number k xs
  with_more_other k xs x ne = with_append k xs (x ∷ []) ∙ ap (λ (z : List Span). spans_with number k xs ++ z) (others_skipped k x [] ne) ∙ append-nil (spans_with number k xs)

  pub with_more_own : (k : ℕ) (xs : List Span) (x : Span) → number x ≡ k → spans_with number k (xs ++ x ∷ []) ≡ spans_with number k xs ++ x ∷ []
  with_more_own k xs x e = with_append k xs (x ∷ []) ∙ ap (λ (z : List Span). spans_with number k xs ++ z) (own_kept k x [] e)

  -- no span has this number
  pub with_none : (k : ℕ) (xs : List Span) → ((i : ℕ) (x : Span) → get_elem? xs i ≡ some x → number x ≢ k) → spans_with number k xs ≡ []
  with_none k [] h = refl
  with_none k (x ∷ xs) h = others_skipped k x xs (h 0 x refl) ∙ with_none k xs (λ i y e. h (suc i) y e)

pub of_more_other : (s : ℕ) (xs : List Span) (x : Span) → x.station ≢ s → of_station s (xs ++ x ∷ []) ≡ of_station s xs
of_more_other = with_more_other (λ (x : Span). x.station)

pub of_more_own : (s : ℕ) (xs : List Span) (x : Span) → x.station ≡ s → of_station s (xs ++ x ∷ []) ≡ of_station s xs ++ x ∷ []
of_more_own = with_more_own (λ (x : Span). x.station)

pub version_more_other : (v : ℕ) (xs : List Span) (x : Span) → x.version ≢ v → of_version v (xs ++ x ∷ []) ≡ of_version v xs
version_more_other = with_more_other (λ (x : Span). x.version)

pub version_more_own : (v : ℕ) (xs : List Span) (x : Span) → x.version ≡ v → of_version v (xs ++ x ∷ []) ≡ of_version v xs ++ x ∷ []
version_more_own = with_more_own (λ (x : Span). x.version)

-- A span that ends with a hand-over

pub handed_end : (xs : List Span) (x : Span) → handed_on (xs ++ x ∷ []) ≡ xs ++ (record x { handed = true }) ∷ []
handed_end [] x = refl
handed_end (y ∷ []) x = refl
handed_end (y ∷ z ∷ zs) x = ap (λ (q : List Span). y ∷ q) (handed_end (z ∷ zs) x)

pub tiles_handed : (a n : ℕ) (xs : List Span) (x : Span) → Tiles a (xs ++ x ∷ []) n → Tiles a (xs ++ (record x { handed = true }) ∷ []) n
tiles_handed a n [] x k = k
tiles_handed a n (y ∷ ys) x k = (k.0, k.1, tiles_handed y.to n ys x k.2)

pub rising_handed : (low : ℕ) (xs : List Span) (x : Span) → Rising low (xs ++ x ∷ []) → Rising low (xs ++ (record x { handed = true }) ∷ [])
rising_handed low [] x k = k
rising_handed low (y ∷ ys) x k = (k.0, rising_handed (y.station + 1) ys x k.1)

-- Which spans opened the stations

pub opened_most : (next : ℕ) (seating : List ℕ) (xs : List Span) → Opened next seating xs → next ≤ length seating
opened_most next seating [] o = omega arith
opened_most next seating (x ∷ xs) o = let h = opened_most (next + flag_bit x.handed) seating xs o.1 in omega arith

unhanded_adds : (x : Span) → x.handed ≡ false → flag_bit x.handed ≡ 0
unhanded_adds x e = ap flag_bit e

pub opened_more : (next : ℕ) (seating : List ℕ) (xs : List Span) (x : Span) → x.handed ≡ false → Opened next seating xs → Opened next seating (xs ++ x ∷ [])
opened_more next seating [] x e o = (λ t. absurd (let q : true ≡ false = sym t ∙ e in cc), (let z = unhanded_adds x e in let w : next ≡ length seating = o in omega arith))
opened_more next seating (y ∷ ys) x e o = (o.0, opened_more (next + flag_bit y.handed) seating ys x e o.1)

pub opened_grown : (next : ℕ) (seating : List ℕ) (xs : List Span) (x : Span) → Opened next seating (xs ++ x ∷ []) → Opened next seating (xs ++ (record x { to = x.to + 1 }) ∷ [])
opened_grown next seating [] x o = (o.0, o.1)
opened_grown next seating (y ∷ ys) x o = (o.0, opened_grown (next + flag_bit y.handed) seating ys x o.1)

-- the last span opens one more station
pub opened_handed : (next : ℕ) (seating : List ℕ) (xs : List Span) (x : Span) → x.handed ≡ false → IsLastStation seating x.version x.station → Opened next seating (xs ++ x ∷ [])
    → Opened next (seating ++ x.version ∷ []) (xs ++ (record x { handed = true }) ∷ [])
opened_handed next seating [] x e last o = let all : next ≡ length seating = (let z = unhanded_adds x e in let w = o.1 in omega arith) in (
  λ _. (subst (λ (z : List ℕ). IsLastStation z x.version x.station) (sym (take-append-le next seating (x.version ∷ []) (omega arith) ∙ take_all next seating (omega arith))) last, at_last seating x.version next (sym all)),
  (let z = length-append seating (x.version ∷ []) in omega arith),
)
opened_handed next seating (y ∷ ys) x e last o = let most = opened_most (next + flag_bit y.handed) seating (ys ++ x ∷ []) o.1 in (
  λ t. let w = o.0 t in (subst (λ (z : List ℕ). IsLastStation z y.version y.station) (sym (take-append-le next seating (x.version ∷ []) (omega arith))) w.0, at_longer seating (x.version ∷ []) next y.version w.1),
  opened_handed (next + flag_bit y.handed) seating ys x e last o.1,
)

-- The stations of a version

-- one more station, of another version
pub last_other : (seating : List ℕ) (v w s : ℕ) → w ≢ v → IsLastStation seating v s → IsLastStation (seating ++ w ∷ []) v s
last_other seating v w s ne l = record {
  has = at_longer seating (w ∷ []) s v l.has;
  none_later = λ t lt e. ⊎_elim (λ (q : get_elem? seating t ≡ some v). l.none_later t lt q) (λ (q : (t ≡ length seating) × (w ≡ v)). ne q.1) (at_end seating w v t e);
}

-- the new station is its version's last
pub last_new : (seating : List ℕ) (v : ℕ) → IsLastStation (seating ++ v ∷ []) v (length seating)
last_new seating v = record {
  has = at_last seating v (length seating) refl;
  none_later = λ t lt e. let b = at_below (seating ++ v ∷ []) t v e in let n = length-append seating (v ∷ []) in absurd (omega arith);
}
