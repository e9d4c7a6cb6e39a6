-- One arrival after another, as loops go.
use Rattle.std.proofs.Common.{◌≡◌, ◌∙◌, sym, ap, refl, ℕ, zero, suc, ◌+◌, ◌<◌, ◌≤◌, Bool, true, false, ◌||◌, List, [], ◌∷◌, ◌++◌, length, take, drop, map, Some, None, arith}
use Rattle.std.specs.Prelude.{slice_index_or, if◌then◌else◌}
use Rattle.std.specs.List.{position_from}
use Rattle.std.proofs.lemmas.Option.{same_Some}
use Rattle.nv_kernel.proofs.Keeping.{map_more}
use Rattle.nv_script.specs.declared.arrival.Arrival.{Arrival}
use Rattle.nv_script.specs.Arrivals as spec
use Rattle.nv_arriving.specs.Arrivals.{any_ends, until}
use Rattle.nv_script.specs.ArrivalViews.{view as arrival_of}

next_place : (i : ℕ) → i + 1 ≡ suc i
next_place i = omega arith

take_suc : {A : Type 0} (xs : List A) (i : ℕ) (x : A) → i < length xs → x ≡ slice_index_or xs i x → take (suc i) xs ≡ take i xs ++ x ∷ []
take_suc [] i x h e = absurd (omega arith)
take_suc (y ∷ ys) zero x h e = ap (λ z. z ∷ []) (sym e)
take_suc (y ∷ ys) (suc i) x h e = ap (λ z. y ∷ z) (take_suc ys i x (omega arith) e)

drop_suc : {A : Type 0} (xs : List A) (i : ℕ) (x : A) → i < length xs → x ≡ slice_index_or xs i x → drop i xs ≡ x ∷ drop (suc i) xs
drop_suc [] i x h e = absurd (omega arith)
drop_suc (y ∷ ys) zero x h e = ap (λ z. z ∷ ys) (sym e)
drop_suc (y ∷ ys) (suc i) x h e = drop_suc ys i x (omega arith) e

take_over : {A : Type 0} (xs : List A) (i : ℕ) → length xs ≤ i → take i xs ≡ xs
take_over [] zero h = refl
take_over [] (suc i) h = refl
take_over (y ∷ ys) zero h = absurd (omega arith)
take_over (y ∷ ys) (suc i) h = ap (λ z. y ∷ z) (take_over ys i (omega arith))

-- those before the next, and it
pub step : (xs : List Arrival) (i : ℕ) (x : Arrival) → i < length xs → x ≡ slice_index_or xs i x → map arrival_of (take (i + 1) xs) ≡ map arrival_of (take i xs) ++ arrival_of x ∷ []
step xs i x h e = ap (λ n. map arrival_of (take n xs)) (next_place i) ∙ (ap (map arrival_of) (take_suc xs i x h e) ∙ map_more arrival_of (take i xs) x)

pub rest_step : (xs : List Arrival) (i : ℕ) (x : Arrival) → i < length xs → x ≡ slice_index_or xs i x → map arrival_of (drop i xs) ≡ arrival_of x ∷ map arrival_of (drop (i + 1) xs)
rest_step xs i x h e = ap (map arrival_of) (drop_suc xs i x h e) ∙ ap (λ n. arrival_of x ∷ map arrival_of (drop n xs)) (sym (next_place i))

pub whole : (xs : List Arrival) (i : ℕ) → length xs ≤ i → map arrival_of (take i xs) ≡ map arrival_of xs
whole xs i h = ap (map arrival_of) (take_over xs i h)

pub drop_map : (xs : List Arrival) (n : ℕ) → map arrival_of (drop n xs) ≡ drop n (map arrival_of xs)
drop_map xs zero = refl
drop_map [] (suc n) = refl
drop_map (x ∷ xs) (suc n) = drop_map xs n

pub take_map : (xs : List Arrival) (n : ℕ) → map arrival_of (take n xs) ≡ take n (map arrival_of xs)
take_map xs zero = refl
take_map [] (suc n) = refl
take_map (x ∷ xs) (suc n) = ap (λ z. arrival_of x ∷ z) (take_map xs n)

-- how many come up to the first that ends the wait, by its place
pub until_at : (w : spec.Arrival → Bool) (xs : List Arrival) (n place : ℕ) → position_from (λ (a : Arrival). w (arrival_of a)) n xs ≡ Some place → until w (map arrival_of xs) + n ≡ place + 1
until_at w [] n place h = cc
until_at w (x ∷ xs) n place h = by (w (arrival_of x)) refl h (until_at w xs (n + 1) place) where
  by : (b : Bool) → w (arrival_of x) ≡ b → (if b then Some n else position_from (λ (a : Arrival). w (arrival_of a)) (n + 1) xs) ≡ Some place
      → (position_from (λ (a : Arrival). w (arrival_of a)) (n + 1) xs ≡ Some place → until w (map arrival_of xs) + (n + 1) ≡ place + 1)
      → until w (arrival_of x ∷ map arrival_of xs) + n ≡ place + 1
  by true e k next = omega (arith, ap (λ (b : Bool). if b then 1 else suc (until w (map arrival_of xs))) e, same_Some n place k)
  by false e k next = let r = next k in omega (arith, ap (λ (b : Bool). if b then 1 else suc (until w (map arrival_of xs))) e, r)

pub until_all : (w : spec.Arrival → Bool) (xs : List Arrival) (n : ℕ) → position_from (λ (a : Arrival). w (arrival_of a)) n xs ≡ None → until w (map arrival_of xs) ≡ length xs
until_all w [] n h = refl
until_all w (x ∷ xs) n h = by (w (arrival_of x)) refl h (until_all w xs (n + 1)) where
  by : (b : Bool) → w (arrival_of x) ≡ b → (if b then Some n else position_from (λ (a : Arrival). w (arrival_of a)) (n + 1) xs) ≡ None
      → (position_from (λ (a : Arrival). w (arrival_of a)) (n + 1) xs ≡ None → until w (map arrival_of xs) ≡ length xs)
      → until w (arrival_of x ∷ map arrival_of xs) ≡ suc (length xs)
  by true e k next = cc
  by false e k next = ap (λ (b : Bool). if b then 1 else suc (until w (map arrival_of xs))) e ∙ ap suc (next k)

-- some of them ends the wait, where the first that does has a place
pub any_at : (w : spec.Arrival → Bool) (xs : List Arrival) (n place : ℕ) → position_from (λ (a : Arrival). w (arrival_of a)) n xs ≡ Some place
    → any_ends w (map arrival_of xs) ≡ true
any_at w [] n place h = cc
any_at w (x ∷ xs) n place h = by (w (arrival_of x)) refl h (any_at w xs (n + 1) place) where
  by : (b : Bool) → w (arrival_of x) ≡ b → (if b then Some n else position_from (λ (a : Arrival). w (arrival_of a)) (n + 1) xs) ≡ Some place
      → (position_from (λ (a : Arrival). w (arrival_of a)) (n + 1) xs ≡ Some place → any_ends w (map arrival_of xs) ≡ true)
      → any_ends w (arrival_of x ∷ map arrival_of xs) ≡ true
  by true e k next = ap (λ (b : Bool). b || any_ends w (map arrival_of xs)) e
  by false e k next = ap (λ (b : Bool). b || any_ends w (map arrival_of xs)) e ∙ next k

pub any_all : (w : spec.Arrival → Bool) (xs : List Arrival) (n : ℕ) → position_from (λ (a : Arrival). w (arrival_of a)) n xs ≡ None
    → any_ends w (map arrival_of xs) ≡ false
any_all w [] n h = refl
any_all w (x ∷ xs) n h = by (w (arrival_of x)) refl h (any_all w xs (n + 1)) where
  by : (b : Bool) → w (arrival_of x) ≡ b → (if b then Some n else position_from (λ (a : Arrival). w (arrival_of a)) (n + 1) xs) ≡ None
      → (position_from (λ (a : Arrival). w (arrival_of a)) (n + 1) xs ≡ None → any_ends w (map arrival_of xs) ≡ false)
      → any_ends w (arrival_of x ∷ map arrival_of xs) ≡ false
  by true e k next = cc
  by false e k next = ap (λ (b : Bool). b || any_ends w (map arrival_of xs)) e ∙ next k
