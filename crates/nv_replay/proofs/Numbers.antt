-- The planned lengths that are still to come become fewer.
use Rattle.std.proofs.Common.{◌≡◌, ap, sym, refl, ℕ, zero, suc, ◌+◌, ◌<◌, ◌≤◌, ◌⊎◌, inl, inr, Bool, true, false, List, [], ◌∷◌, ◌++◌, length, map, set, Option, Some, None, arith, cond}
use Rattle.std.specs.Prelude.{slice_get, nat_le, nat_eq, ◌==◌, ◌||◌, ◌&&◌, not}
use Rattle.std.specs.List.{list_any}
use Rattle.std.proofs.lemmas.Option.{same_Some}
use Rattle.std.proofs.lemmas.Bool.Decides.{nat_tests}
use Rattle.nv_replay.specs.declared.fate.Fate.{Fate}
use Rattle.nv_replay.specs.Lead.{Leader}
use Rattle.nv_replay.specs.Sequence.{is_going}
use Rattle.nv_calls.specs.Hands.{has}
use Rattle.nv_replay.specs.Hands.{count_above, is_handed}
use Rattle.nv_replay.specs.Monitor.{numbers}

one_below : (k n m : ℕ) → n ≤ m → (cond (nat_le k m) 0 1) ≤ (cond (nat_le k n) 0 1)
one_below k n m l = grind (arith, nat_tests)

pub above_later : (ks : List ℕ) (n m : ℕ) → n ≤ m → count_above ks m ≤ count_above ks n
above_later [] n m l = omega arith
above_later (k ∷ ks) n m l = omega (arith, one_below k n m l, above_later ks n m l)

here_less : (k n m : ℕ) (ks : List ℕ) → n < m → (k == m) ≡ true → count_above (k ∷ ks) m < count_above (k ∷ ks) n
here_less k n m ks l h =
    let a : nat_le k m ≡ true = grind (arith, nat_tests) in
    let b : nat_le k n ≡ false = grind (arith, nat_tests) in
    rw (a, b) (omega (arith, above_later ks n m (omega arith)))

less_by : (k n m : ℕ) (ks : List ℕ) (b : Bool) → (k == m) ≡ b → n < m → (b || has ks m) ≡ true → (has ks m ≡ true → count_above ks m < count_above ks n)
    → count_above (k ∷ ks) m < count_above (k ∷ ks) n
less_by k n m ks true e l h ih = here_less k n m ks l e
less_by k n m ks false e l h ih = omega (arith, one_below k n m (omega arith), ih h)

-- where the log has become as long as one of these numbers, fewer are above its length
pub above_less : (ks : List ℕ) (n m : ℕ) → n < m → has ks m ≡ true → count_above ks m < count_above ks n
above_less [] n m l h = cc
above_less (k ∷ ks) n m l h = less_by k n m ks (k == m) refl l h (above_less ks n m l)

pub above_all : (ks : List ℕ) (n : ℕ) → count_above ks n ≤ length ks
above_all [] n = omega arith
above_all (k ∷ ks) n = let e : cond (nat_le k n) 0 1 ≤ 1 = grind (arith, nat_tests) in omega (arith, e, above_all ks n)

pub record HandedAt {P : Type 0} (hands : List ℕ) (from : ℕ) (l : Leader P) : Type 0 where
  pub on : l.fate ≡ None
  pub grew : from < length l.log
  pub planned : has hands (length l.log) ≡ true

handed_by : {P : Type 0} (hands : List ℕ) (from : ℕ) (l : Leader P) (f : Option Fate) (b c : Bool) → l.fate ≡ f → nat_le (length l.log) from ≡ b
    → has hands (length l.log) ≡ c → (is_going f && (not b && c)) ≡ true → HandedAt hands from l
handed_by hands from l None false true e h k z = record { on = e; grew = grind (arith, nat_tests); planned = k }
handed_by hands from l None false false e h k z = cc
handed_by hands from l None true c e h k z = cc
handed_by hands from l (Some x) b c e h k z = cc

pub handed_at : {P : Type 0} (hands : List ℕ) (from : ℕ) (l : Leader P) → is_handed hands from l ≡ true → HandedAt hands from l
handed_at hands from l h = handed_by hands from l l.fate (nat_le (length l.log) from) (has hands (length l.log)) refl refl refl h

pub ended_not_handed : {P : Type 0} (hands : List ℕ) (from : ℕ) (l : Leader P) → is_going l.fate ≡ false → is_handed hands from l ≡ false
ended_not_handed hands from l h = rw h refl

and_no : (b : Bool) → (b && false) ≡ false
and_no true = refl
and_no false = refl

pub none_planned : {P : Type 0} (from : ℕ) (l : Leader P) → is_handed [] from l ≡ false
none_planned from l = rw (and_no (not (nat_le (length l.log) from))) (and_no (is_going l.fate))

pub numbers_length : {P : Type 0} (i : ℕ) (ps : List P) → length (numbers i ps) ≡ length ps
numbers_length i [] = refl
numbers_length i (p ∷ ps) = ap suc (numbers_length (i + 1) ps)

-- a list with one place changed
pub get_after : {X : Type 0} (prefix : List X) (x : X) (xs : List X) → slice_get (prefix ++ x ∷ xs) (length prefix) ≡ Some x
get_after [] x xs = refl
get_after (y ∷ prefix) x xs = get_after prefix x xs

pub set_after : {X : Type 0} (prefix : List X) (x y : X) (xs : List X) → set (prefix ++ x ∷ xs) (length prefix) y ≡ prefix ++ y ∷ xs
set_after [] x y xs = refl
set_after (z ∷ prefix) x y xs = ap (λ l. z ∷ l) (set_after prefix x y xs)

pub get_set : {X : Type 0} (xs : List X) (i : ℕ) (x y : X) → slice_get xs i ≡ Some x → slice_get (set xs i y) i ≡ Some y
get_set [] i x y h = cc
get_set (z ∷ xs) zero x y h = refl
get_set (z ∷ xs) (suc i) x y h = get_set xs i x y h

pub length_set : {X : Type 0} (xs : List X) (i : ℕ) (y : X) → length (set xs i y) ≡ length xs
length_set [] i y = refl
length_set (z ∷ xs) zero y = refl
length_set (z ∷ xs) (suc i) y = ap suc (length_set xs i y)

pub has_any : (ks : List ℕ) (n : ℕ) → list_any (λ k. nat_eq k n) ks ≡ has ks n
has_any [] n = refl
has_any (k ∷ ks) n = ap (λ b. nat_eq k n || b) (has_any ks n)

pub eq_self : (i : ℕ) → (i == i) ≡ true
eq_self i = grind (arith, nat_tests)

pub eq_same : (i k : ℕ) → (i == k) ≡ true → i ≡ k
eq_same i k h = grind (arith, nat_tests)

later_apart : (i k : ℕ) → (i == k) ≡ false → (suc i == suc k) ≡ false
later_apart i k h = grind (arith, nat_tests)

earlier_apart : (i k : ℕ) → (suc i == suc k) ≡ false → (i == k) ≡ false
earlier_apart i k h = grind (arith, nat_tests)

first_apart : (k : ℕ) → (0 == suc k) ≡ false
first_apart k = grind (arith, nat_tests)

apart_first : (i : ℕ) → (suc i == 0) ≡ false
apart_first i = grind (arith, nat_tests)

-- an element of a list with one place changed
pub set_cases : {X : Type 0} (xs : List X) (i : ℕ) (y : X) (k : ℕ) (x : X) → slice_get (set xs i y) k ≡ Some x
    → ((i ≡ k) × (y ≡ x)) ⊎ (((i == k) ≡ false) × (slice_get xs k ≡ Some x))
set_cases [] i y k x h = cc
set_cases (z ∷ xs) zero y zero x h = inl (refl, same_Some y x h)
set_cases (z ∷ xs) zero y (suc k) x h = inr (first_apart k, h)
set_cases (z ∷ xs) (suc i) y zero x h = inr (apart_first i, h)
set_cases (z ∷ xs) (suc i) y (suc k) x h = elim (set_cases xs i y k x h) [
  | inl (e, s) ↦ inl (ap suc e, s)
  | inr (e, s) ↦ inr (later_apart i k e, s)
]

pub set_same : {X : Type 0} (xs : List X) (i : ℕ) (x : X) → slice_get xs i ≡ Some x → set xs i x ≡ xs
set_same [] i x h = cc
set_same (z ∷ xs) zero x h = ap (λ y. y ∷ xs) (sym (same_Some z x h))
set_same (z ∷ xs) (suc i) x h = ap (λ l. z ∷ l) (set_same xs i x h)

pub some_at : {X : Type 0} (xs : List X) (i : ℕ) → i < length xs → (x : X) × (slice_get xs i ≡ Some x)
some_at [] i h = absurd (omega arith)
some_at (x ∷ xs) zero h = (x, refl)
some_at (x ∷ xs) (suc i) h = some_at xs i (omega arith)

-- numbers in an order
abbrev pub IsDistinct : List ℕ → Type 0
IsDistinct [] = Unit {0}
IsDistinct (i ∷ order) = (has order i ≡ false) × IsDistinct order

pub has_here : (i : ℕ) (order : List ℕ) → has (i ∷ order) i ≡ true
has_here i order = rw (eq_self i) refl

or_right : (b c : Bool) → c ≡ true → (b || c) ≡ true
or_right true c h = refl
or_right false c h = h

pub has_after : (i k : ℕ) (order : List ℕ) → has order k ≡ true → has (i ∷ order) k ≡ true
has_after i k order h = or_right (i == k) (has order k) h

pub has_other : (i k : ℕ) (order : List ℕ) → has (i ∷ order) k ≡ true → (i == k) ≡ false → has order k ≡ true
has_other i k order h e = rw e at h

pub has_last : (order : List ℕ) (i : ℕ) → has (order ++ i ∷ []) i ≡ true
has_last [] i = has_here i []
has_last (j ∷ order) i = or_right (j == i) (has (order ++ i ∷ []) i) (has_last order i)

prefix_by : (order : List ℕ) (i k : ℕ) (b : Bool) → (b || has order k) ≡ true → (has order k ≡ true → has (order ++ i ∷ []) k ≡ true) → (b || has (order ++ i ∷ []) k) ≡ true
prefix_by order i k true h ih = refl
prefix_by order i k false h ih = ih h

pub has_prefix : (order : List ℕ) (i k : ℕ) → has order k ≡ true → has (order ++ i ∷ []) k ≡ true
has_prefix [] i k h = cc
has_prefix (j ∷ order) i k h = prefix_by order i k (j == k) h (has_prefix order i k)

either_last : (i k : ℕ) (b : Bool) → (i == k) ≡ b → (b || false) ≡ true → i ≡ k
either_last i k true e h = eq_same i k e
either_last i k false e h = cc

either_by : (order : List ℕ) (i k : ℕ) (b : Bool) → (b || has (order ++ i ∷ []) k) ≡ true → (has (order ++ i ∷ []) k ≡ true → (has order k ≡ true) ⊎ (i ≡ k))
    → ((b || has order k) ≡ true) ⊎ (i ≡ k)
either_by order i k true h ih = inl refl
either_by order i k false h ih = ih h

pub has_either : (order : List ℕ) (i k : ℕ) → has (order ++ i ∷ []) k ≡ true → (has order k ≡ true) ⊎ (i ≡ k)
has_either [] i k h = inr (either_last i k (i == k) refl h)
has_either (j ∷ order) i k h = either_by order i k (j == k) h (has_either order i k)

apart_by : (b c : Bool) → (b || c) ≡ false → (b ≡ false) × (c ≡ false)
apart_by true c h = cc
apart_by false c h = (refl, h)

swap_apart : (i j : ℕ) → (j == i) ≡ false → (i == j) ≡ false
swap_apart i j h = grind (arith, nat_tests)

not_last : (order : List ℕ) (i j : ℕ) → has order j ≡ false → (j == i) ≡ false → has (order ++ i ∷ []) j ≡ false
not_last [] i j h e = rw (swap_apart i j e) refl
not_last (k ∷ order) i j h e = let n = apart_by (k == j) (has order j) h in rw (n.0) (not_last order i j n.1 e)

pub distinct_last : (order : List ℕ) (i : ℕ) → IsDistinct order → has order i ≡ false → IsDistinct (order ++ i ∷ [])
distinct_last [] i d h = (refl, tt)
distinct_last (j ∷ order) i d h =
    let n = apart_by (j == i) (has order i) h in
    (not_last order i j d.0 n.0, distinct_last order i d.1 n.1)

pub get_other : {X : Type 0} (xs : List X) (i : ℕ) (y : X) (k : ℕ) → (i == k) ≡ false → slice_get (set xs i y) k ≡ slice_get xs k
get_other [] i y k h = refl
get_other (z ∷ xs) zero y zero h = cc
get_other (z ∷ xs) zero y (suc k) h = refl
get_other (z ∷ xs) (suc i) y zero h = refl
get_other (z ∷ xs) (suc i) y (suc k) h = get_other xs i y k (earlier_apart i k h)

within_by : {X : Type 0} (i : ℕ) (xs : List X) (k : ℕ) (b : Bool) → (i == k) ≡ b → (b || has (numbers (i + 1) xs) k) ≡ true
    → (has (numbers (i + 1) xs) k ≡ true → (i + 1 ≤ k) × (k < i + 1 + length xs)) → (i ≤ k) × (k < i + suc (length xs))
within_by i xs k true e h ih = let q = eq_same i k e in (omega arith, omega arith)
within_by i xs k false e h ih = let q = ih h in (omega arith, omega arith)

-- the numbers of a list from i on
pub has_within : {X : Type 0} (i : ℕ) (xs : List X) (k : ℕ) → has (numbers i xs) k ≡ true → (i ≤ k) × (k < i + length xs)
has_within i [] k h = cc
has_within i (x ∷ xs) k h = within_by i xs k (i == k) refl h (has_within (i + 1) xs k)

number_by : {X : Type 0} (i : ℕ) (xs : List X) (k : ℕ) (b : Bool) → (i == k) ≡ b → i ≤ k → k < i + suc (length xs)
    → (i + 1 ≤ k → k < i + 1 + length xs → has (numbers (i + 1) xs) k ≡ true) → (b || has (numbers (i + 1) xs) k) ≡ true
number_by i xs k true e l m ih = refl
number_by i xs k false e l m ih = let q : i + 1 ≤ k = grind (arith, nat_tests) in ih q (omega arith)

pub has_numbers : {X : Type 0} (i : ℕ) (xs : List X) (k : ℕ) → i ≤ k → k < i + length xs → has (numbers i xs) k ≡ true
has_numbers i [] k l m = absurd (omega arith)
has_numbers i (x ∷ xs) k l m = number_by i xs k (i == k) refl l m (has_numbers (i + 1) xs k)

not_has : {X : Type 0} (i : ℕ) (xs : List X) (b : Bool) → has (numbers (i + 1) xs) i ≡ b → b ≡ false
not_has i xs true h = let q = has_within (i + 1) xs i h in absurd (omega arith)
not_has i xs false h = refl

pub distinct_numbers : {X : Type 0} (i : ℕ) (xs : List X) → IsDistinct (numbers i xs)
distinct_numbers i [] = tt
distinct_numbers i (x ∷ xs) = (not_has i xs (has (numbers (i + 1) xs) i) refl, distinct_numbers (i + 1) xs)

pub numbers_map : {X Y : Type 0} (f : X → Y) (i : ℕ) (xs : List X) → numbers i xs ≡ numbers i (map f xs)
numbers_map f i [] = refl
numbers_map f i (x ∷ xs) = ap (λ l. i ∷ l) (numbers_map f (i + 1) xs)

pub map_at : {X Y : Type 0} (f : X → Y) (xs : List X) (k : ℕ) (x : X) → slice_get xs k ≡ Some x → slice_get (map f xs) k ≡ Some (f x)
map_at f [] k x h = cc
map_at f (z ∷ xs) zero x h = ap (λ y. Some (f y)) (same_Some z x h)
map_at f (z ∷ xs) (suc k) x h = map_at f xs k x h
