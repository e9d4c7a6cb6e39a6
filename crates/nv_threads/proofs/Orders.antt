-- The next thread of a turn.
use Rattle.std.proofs.Common.{◌≡◌, sym, subst, refl, ℕ, zero, suc, ◌+◌, ◌<◌, ◌≤◌, ◌⊎◌, inl, inr, ⊎_elim, Bool, true, false, cond, nat_lt, min, List, [], ◌∷◌, length, Option, Some, None, arith}
use Rattle.std.specs.Prelude.{Contains}
use Rattle.std.proofs.lemmas.Bool.{cases_lt}
use Rattle.std.proofs.lemmas.Bool.Decides.{nat_tests}
use Rattle.nv_threads.specs.Threads.{least_above, least, lesser, or_else, next_tid}
use Rattle.nv_threads.specs.Going.{above}

pub at_prefix : (x : ℕ) (xs : List ℕ) → Contains (x ∷ xs) x
at_prefix x xs = (0, omega arith, refl)

pub after : (x : ℕ) (xs : List ℕ) (r : ℕ) → Contains xs r → Contains (x ∷ xs) r
after x xs r (k, h, e) = (suc k, omega arith, e)

pub either : (x : ℕ) (xs : List ℕ) (r : ℕ) → Contains (x ∷ xs) r → (x ≡ r) ⊎ Contains xs r
either x xs r (zero, h, e) = inl e
either x xs r (suc k, h, e) = inr (k, omega arith, e)

nothing : {A : Type 0} (r : ℕ) → Contains [] r → A
nothing r (k, h, e) = absurd (omega arith)

-- ---- the least of some

abbrev IsLeast : List ℕ → Option ℕ → Type 0
IsLeast ts None = (r : ℕ) → Contains ts r → ⊥
IsLeast ts (Some y) = Contains ts y × ((r : ℕ) → Contains ts r → y ≤ r)

abbrev IsLeastAbove : ℕ → List ℕ → Option ℕ → Type 0
IsLeastAbove k ts None = (r : ℕ) → Contains ts r → r ≤ k
IsLeastAbove k ts (Some y) = (k < y) × Contains ts y × ((r : ℕ) → Contains ts r → k < r → y ≤ r)

pub min_is : (a b : ℕ) → (min a b ≡ a) ⊎ (min a b ≡ b)
min_is a b = by (cases_lt a b)
  where
    by : (a < b) ⊎ (b ≤ a) → (min a b ≡ a) ⊎ (min a b ≡ b)
    by (inl h) = inl (omega arith)
    by (inr h) = inr (omega arith)

least_by : (x : ℕ) (xs : List ℕ) (o : Option ℕ) → IsLeast xs o → IsLeast (x ∷ xs) (Some (lesser x o))
least_by x xs None h = (at_prefix x xs, λ r c. ⊎_elim (λ (e : x ≡ r). omega arith) (λ (c : Contains xs r). absurd (h r c)) (either x xs r c))
least_by x xs (Some y) h = (
  ⊎_elim (λ (e : min x y ≡ x). subst (λ (z : ℕ). Contains (x ∷ xs) z) (sym e) (at_prefix x xs)) (λ (e : min x y ≡ y). subst (λ (z : ℕ). Contains (x ∷ xs) z) (sym e) (after x xs y h.0)) (min_is x y),
  λ r c. ⊎_elim (λ (e : x ≡ r). omega arith) (λ (c : Contains xs r). (let k = h.1 r c in omega arith)) (either x xs r c),
)

pub least_is : (ts : List ℕ) → IsLeast ts (least ts)
least_is [] = λ r c. nothing r c
least_is (t ∷ ts) = least_by t ts (least ts) (least_is ts)

above_by : (k x : ℕ) (xs : List ℕ) (o : Option ℕ) (b : Bool) → nat_lt k x ≡ b → IsLeastAbove k xs o → IsLeastAbove k (x ∷ xs) (cond b (Some (lesser x o)) o)
above_by k x xs None true e h =
    let up : k < x = grind (arith, nat_tests) in
    (up, at_prefix x xs, λ r c g. ⊎_elim (λ (e : x ≡ r). omega arith) (λ (c : Contains xs r). (let z = h r c in absurd (omega arith))) (either x xs r c))
above_by k x xs (Some y) true e h =
    let up : k < x = grind (arith, nat_tests) in
    let high = h.0 in (
      omega arith,
      ⊎_elim (λ (e : min x y ≡ x). subst (λ (z : ℕ). Contains (x ∷ xs) z) (sym e) (at_prefix x xs)) (λ (e : min x y ≡ y). subst (λ (z : ℕ). Contains (x ∷ xs) z) (sym e) (after x xs y h.1)) (min_is x y),
      λ r c g. ⊎_elim (λ (e : x ≡ r). omega arith) (λ (c : Contains xs r). (let z = h.2 r c g in omega arith)) (either x xs r c),
    )
above_by k x xs None false e h =
    let low : x ≤ k = grind (arith, nat_tests) in
    λ r c. ⊎_elim (λ (e : x ≡ r). omega arith) (λ (c : Contains xs r). h r c) (either x xs r c)
above_by k x xs (Some y) false e h =
    let low : x ≤ k = grind (arith, nat_tests) in
    (h.0, after x xs y h.1, λ r c g. ⊎_elim (λ (e : x ≡ r). absurd (omega arith)) (λ (c : Contains xs r). h.2 r c g) (either x xs r c))

pub least_above_is : (k : ℕ) (ts : List ℕ) → IsLeastAbove k ts (least_above k ts)
least_above_is k [] = λ r c. nothing r c
least_above_is k (t ∷ ts) = above_by k t ts (least_above k ts) (nat_lt k t) refl (least_above_is k ts)

-- ---- how many are above

up_to : (b : Bool) → cond b 1 0 ≤ 1
up_to true = omega arith
up_to false = omega arith

pub above_few : (k : ℕ) (ts : List ℕ) → above k ts ≤ length ts
above_few k [] = omega arith
above_few k (t ∷ ts) = let h = above_few k ts in let b = up_to (nat_lt k t) in omega arith

fewer_by : (j k x : ℕ) (a b : Bool) → nat_lt k x ≡ a → nat_lt j x ≡ b → j ≤ k → cond a 1 0 ≤ cond b 1 0
fewer_by j k x true true e f h = omega arith
fewer_by j k x true false e f h = absurd (let p : k < x = grind (arith, nat_tests) in let q : x ≤ j = grind (arith, nat_tests) in omega arith)
fewer_by j k x false true e f h = omega arith
fewer_by j k x false false e f h = omega arith

pub above_fewer : (j k : ℕ) (ts : List ℕ) → j ≤ k → above k ts ≤ above j ts
above_fewer j k [] h = omega arith
above_fewer j k (t ∷ ts) h = let g = above_fewer j k ts h in let b = fewer_by j k t (nat_lt k t) (nat_lt j t) refl refl h in omega arith

pub above_less : (j k : ℕ) (ts : List ℕ) → j < k → Contains ts k → above k ts + 1 ≤ above j ts
above_less j k [] h c = nothing k c
above_less j k (t ∷ ts) h c = ⊎_elim
    (λ (e : t ≡ k). (let a : nat_lt k t ≡ false = grind (arith, nat_tests) in let b : nat_lt j t ≡ true = grind (arith, nat_tests) in
    let g = above_fewer j k ts (omega arith) in rw (a, b) (omega (arith, g))))
    (λ (c : Contains ts k). (let g = above_less j k ts h c in let b = fewer_by j k t (nat_lt k t) (nat_lt j t) refl refl (omega arith) in omega (arith, g, b)))
    (either t ts k c)

pub above_none : (k : ℕ) (ts : List ℕ) → ((r : ℕ) → Contains ts r → r ≤ k) → above k ts ≡ 0
above_none k [] h = refl
above_none k (t ∷ ts) h =
    let low = h t (at_prefix t ts) in
    let a : nat_lt k t ≡ false = grind (arith, nat_tests) in
    let g = above_none k ts (λ r c. h r (after t ts r c)) in
    rw (a, g) refl

-- ---- the next

pub data Next (k : ℕ) (ts : List ℕ) (y : ℕ) : Type 0 where
  Higher : k < y → Contains ts y → ((r : ℕ) → Contains ts r → k < r → y ≤ r) → Next k ts y
  Lowest : ((r : ℕ) → Contains ts r → r ≤ k) → Contains ts y → ((r : ℕ) → Contains ts r → y ≤ r) → Next k ts y

next_by : (k : ℕ) (ts : List ℕ) (r : ℕ) (o l : Option ℕ) → Contains ts r → IsLeastAbove k ts o → IsLeast ts l → Next k ts (or_else o (or_else l k))
next_by k ts r (Some y) l c a b = Higher a.0 a.1 a.2
next_by k ts r None (Some y) c a b = Lowest a b.0 b.1
next_by k ts r None None c a b = absurd (b r c)

pub next_is : (k : ℕ) (ts : List ℕ) (r : ℕ) → Contains ts r → Next k ts (next_tid k ts)
unfolding next_tid
next_is k ts r c = next_by k ts r (least_above k ts) (least ts) c (least_above_is k ts) (least_is ts)
