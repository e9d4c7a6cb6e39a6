-- What stands at a place of a list, and the first place that passes.
use Rattle.std.proofs.Common.{◌≡◌, ◌≢◌, ◌∙◌, sym, ap, subst, refl, ℕ, zero, suc, ◌+◌, ◌≤◌, ◌<◌, Bool, true, false, cond, List, [], ◌∷◌, ◌++◌, length, get_or, set, drop, Option, Some, None, unwrap_or, inl, inr, ◌⊎◌, arith, length-set}
use Rattle.std.specs.Prelude.{nat_lt, slice_get}
use Rattle.std.specs.List.{list_any, position_from}
use Rattle.std.proofs.lemmas.Bool.{or_cases, or_left, or_right}
use Rattle.std.proofs.lemmas.Bool.Decides.{nat_tests}
use Rattle.nv_fs.specs.States.{with_at, least_free}

pub some_is : {A : Type 0} (x y : A) → Some x ≡ Some y → x ≡ y
some_is x y e = ap (λ o. unwrap_or o x) e

-- a place by its number, or what stands for none
pub or_none : {A : Type 0} (xs : List A) (i : ℕ) (d : A) → get_or xs i d ≡ unwrap_or (slice_get xs i) d
or_none [] i d = refl
or_none (x ∷ xs) zero d = refl
or_none (x ∷ xs) (suc i) d = or_none xs i d

pub is_inside : {A : Type 0} (xs : List A) (i : ℕ) (x : A) → slice_get xs i ≡ Some x → i < length xs
is_inside [] i x e = cc
is_inside (y ∷ xs) zero x e = omega arith
is_inside (y ∷ xs) (suc i) x e = omega (arith, is_inside xs i x e)

-- a place of what is left of a list
pub get_drop : {A : Type 0} (xs : List A) (n m k : ℕ) → k ≡ n + m → slice_get (drop n xs) m ≡ slice_get xs k
get_drop xs zero m k e = ap (slice_get xs) (let is : m ≡ k = omega (arith, e) in is)
get_drop [] (suc n) m k e = refl
get_drop (x ∷ xs) (suc n) m zero e = absurd (omega (arith, e))
get_drop (x ∷ xs) (suc n) m (suc k) e = get_drop xs n m k (omega (arith, e))

-- no place after a list
pub past_end : {A : Type 0} (xs : List A) (i : ℕ) (d : A) → length xs ≤ i → get_or xs i d ≡ d
past_end [] i d h = refl
past_end (x ∷ xs) zero d h = absurd (omega arith)
past_end (x ∷ xs) (suc i) d h = past_end xs i d (omega arith)

pub set_other : {A : Type 0} (xs : List A) (i j : ℕ) (x : A) → j ≢ i → slice_get (set xs i x) j ≡ slice_get xs j
set_other [] i j x n = refl
set_other (y ∷ xs) zero zero x n = absurd (n refl)
set_other (y ∷ xs) zero (suc j) x n = refl
set_other (y ∷ xs) (suc i) zero x n = refl
set_other (y ∷ xs) (suc i) (suc j) x n = set_other xs i j x (λ e. n (ap suc e))

pub set_same : {A : Type 0} (xs : List A) (i : ℕ) (x : A) → i < length xs → slice_get (set xs i x) i ≡ Some x
set_same [] i x h = absurd (omega arith)
set_same (y ∷ xs) zero x h = refl
set_same (y ∷ xs) (suc i) x h = set_same xs i x (omega arith)

-- what is put at a place stands there, or there is no such place
pub put_or_not : {A : Type 0} (xs : List A) (i : ℕ) (x d : A) → (get_or (set xs i x) i d ≡ x) ⊎ ((get_or (set xs i x) i d ≡ d) × (get_or xs i d ≡ d))
put_or_not [] i x d = inr (refl, refl)
put_or_not (y ∷ xs) zero x d = inl refl
put_or_not (y ∷ xs) (suc i) x d = put_or_not xs i x d

push_other : {A : Type 0} (xs : List A) (j : ℕ) (x : A) → j ≢ length xs → slice_get (xs ++ x ∷ []) j ≡ slice_get xs j
push_other [] zero x n = absurd (n refl)
push_other [] (suc j) x n = refl
push_other (y ∷ xs) zero x n = refl
push_other (y ∷ xs) (suc j) x n = push_other xs j x (λ e. n (ap suc e))

push_same : {A : Type 0} (xs : List A) (x : A) → slice_get (xs ++ x ∷ []) (length xs) ≡ Some x
push_same [] x = refl
push_same (y ∷ xs) x = push_same xs x

length_push : {A : Type 0} (xs : List A) (x : A) → length (xs ++ x ∷ []) ≡ suc (length xs)
length_push [] x = refl
length_push (y ∷ xs) x = ap suc (length_push xs x)

-- a table with something at a place of it, or just after it
module _ {A : Type 0} (xs : List A) (i : ℕ) (x : A) (h : i ≤ length xs) where
  pub with_other : (j : ℕ) → j ≢ i → slice_get (with_at xs i x) j ≡ slice_get xs j
  with_other j n = by (nat_lt i (length xs)) refl
    where
      by : (b : Bool) → nat_lt i (length xs) ≡ b → slice_get (cond b (set xs i x) (xs ++ x ∷ [])) j ≡ slice_get xs j
      by true e = set_other xs i j x n
      by false e = let is : i ≡ length xs = grind (arith, nat_tests) in push_other xs j x (λ q. n (q ∙ sym is))

  pub with_same : slice_get (with_at xs i x) i ≡ Some x
  with_same = by (nat_lt i (length xs)) refl
    where
      by : (b : Bool) → nat_lt i (length xs) ≡ b → slice_get (cond b (set xs i x) (xs ++ x ∷ [])) i ≡ Some x
      by true e = let is : i < length xs = grind (arith, nat_tests) in set_same xs i x is
      by false e = let is : i ≡ length xs = grind (arith, nat_tests) in subst (λ (n : ℕ). slice_get (xs ++ x ∷ []) n ≡ Some x) (sym is) (push_same xs x)

  pub with_longer : length xs ≤ length (with_at xs i x)
  with_longer = by (nat_lt i (length xs))
    where
      by : (b : Bool) → length xs ≤ length (cond b (set xs i x) (xs ++ x ∷ []))
      by true = omega (arith, length-set xs i x)
      by false = omega (arith, length_push xs x)

  pub with_inside : i < length (with_at xs i x)
  with_inside = is_inside (with_at xs i x) i x with_same

  pub with_or_other : (j : ℕ) (d : A) → j ≢ i → get_or (with_at xs i x) j d ≡ get_or xs j d
  with_or_other j d n = or_none (with_at xs i x) j d ∙ ap (λ o. unwrap_or o d) (with_other j n) ∙ sym (or_none xs j d)

  pub with_or_same : (d : A) → get_or (with_at xs i x) i d ≡ x
  with_or_same d = or_none (with_at xs i x) i d ∙ ap (λ o. unwrap_or o d) with_same

-- the first place that passes
pub first_is : {A : Type 0} (p : A → Bool) (xs : List A) (i k : ℕ) → position_from p i xs ≡ Some k → (m : ℕ) × (k ≡ i + m) × (x : A) × (slice_get xs m ≡ Some x) × (p x ≡ true)
first_is p [] i k e = cc
first_is {A = A} p (y ∷ xs) i k e = by (p y) refl (λ q. first_is p xs (i + 1) k q) e
  where
    by : (b : Bool) → p y ≡ b → (position_from p (i + 1) xs ≡ Some k → (m : ℕ) × (k ≡ i + 1 + m) × (x : A) × (slice_get xs m ≡ Some x) × (p x ≡ true))
        → cond b (Some i) (position_from p (i + 1) xs) ≡ Some k → (m : ℕ) × (k ≡ i + m) × (x : A) × (slice_get (y ∷ xs) m ≡ Some x) × (p x ≡ true)
    by true t later e = let is = some_is i k e in (0, omega (arith, is), y, refl, t)
    by false t later e = let r = later e in let is = r.1 in (suc r.0, omega (arith, is), r.2, r.3, r.4)

-- some place passes
pub passes_at : (p : Option ℕ → Bool) (xs : List (Option ℕ)) → list_any p xs ≡ true → (d : ℕ) × (p (get_or xs d None) ≡ true)
passes_at p [] h = cc
passes_at p (x ∷ xs) h = elim (or_cases _ _ h) [
  | inl here ↦ (0, here)
  | inr there ↦ let r = passes_at p xs there in (suc r.0, r.1)
]

pub passes : (p : Option ℕ → Bool) (xs : List (Option ℕ)) (d : ℕ) → p None ≡ false → p (get_or xs d None) ≡ true → list_any p xs ≡ true
passes p [] d n h = cc
passes p (x ∷ xs) zero n h = or_left _ _ h
passes p (x ∷ xs) (suc d) n h = or_right _ _ (passes p xs d n h)

-- the least number that isn't in use, among n from i on
pub least_is_near : (used : ℕ → Bool) (n i : ℕ) → least_free used n i ≤ i + n
least_is_near used zero i = omega arith
least_is_near used (suc n) i = by (used i) (least_is_near used n (i + 1))
  where
    by : (b : Bool) → least_free used n (i + 1) ≤ i + 1 + n → cond b (least_free used n (i + 1)) i ≤ i + suc n
    by true later = omega arith
    by false later = omega arith

pub least_is_free : (used : ℕ → Bool) (n i : ℕ) → used (i + n) ≡ false → used (least_free used n i) ≡ false
least_is_free used zero i h = subst (λ (m : ℕ). used m ≡ false) (let e : i + 0 ≡ i = omega arith in e) h
least_is_free used (suc n) i h = by (used i) refl (least_is_free used n (i + 1) (subst (λ (m : ℕ). used m ≡ false) (let q : i + suc n ≡ i + 1 + n = omega arith in q) h))
  where
    by : (b : Bool) → used i ≡ b → used (least_free used n (i + 1)) ≡ false → used (cond b (least_free used n (i + 1)) i) ≡ false
    by true e later = later
    by false e later = e
