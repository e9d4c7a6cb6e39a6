-- Seven threads beside the first.
use Rattle.std.proofs.Common.{◌≡◌, refl, ℕ, zero, suc, ◌+◌, ◌<◌, ◌≤◌, ◌⊎◌, inl, inr, ⊎_elim, true, false, ◌==◌, List, [], ◌∷◌, ◌++◌, length, ℤ, pos, Some, arith}
use Rattle.std.specs.Prelude.{Contains}
use Rattle.std.proofs.lemmas.Bool.Decides.{nat_tests}
use Rattle.nv_calls.specs.Calls.{Entry}
use Rattle.nv_calls.specs.Logs.{made, live_next, IsNew}
use Rattle.nv_calls.specs.Numbers.{CLONE}
use Rattle.nv_rows.specs.Firsts.{firsts}

at_end : (xs : List ℕ) (y r : ℕ) → Contains (xs ++ y ∷ []) r → Contains xs r ⊎ (y ≡ r)
at_end [] y r (zero, h, e) = inr e
at_end [] y r (suc k, h, e) = absurd (omega arith)
at_end (x ∷ xs) y r (zero, h, e) = inl (0, omega arith, e)
at_end (x ∷ xs) y r (suc k, h, e) = ⊎_elim (λ (c : Contains xs r). inl (suc c.0, omega (arith, c.1), c.2)) (λ (f : y ≡ r). inr f) (at_end xs y r (k, omega arith, e))

in_prefix : (xs : List ℕ) (y r : ℕ) → Contains xs r → Contains (xs ++ y ∷ []) r
in_prefix [] y r (k, h, e) = absurd (omega arith)
in_prefix (x ∷ xs) y r (zero, h, e) = (0, omega arith, e)
in_prefix (x ∷ xs) y r (suc k, h, e) = let d = in_prefix xs y r (k, omega arith, e) in (suc d.0, omega (arith, d.1), d.2)

more : (xs : List ℕ) (y : ℕ) → length (xs ++ y ∷ []) ≡ length xs + 1
more [] y = refl
more (x ∷ xs) y = let h = more xs y in omega arith

low : (k r : ℕ) → Contains (firsts k) r → r < 100 + k
low zero r (i, h, e) = absurd (omega arith)
low (suc k) r c = ⊎_elim (λ (d : Contains (firsts k) r). (let h = low k r d in omega arith)) (λ (e : 100 + k ≡ r). omega arith) (at_end (firsts k) (100 + k) r c)

pub first_in : (k : ℕ) → 1 ≤ k → Contains (firsts k) 100
first_in zero h = absurd (omega arith)
first_in (suc zero) h = (0, omega arith, refl)
first_in (suc (suc k)) h = in_prefix (firsts (suc k)) (100 + suc k) 100 (first_in (suc k) (omega arith))

size : (k : ℕ) → length (firsts k) ≡ k
size zero = refl
size (suc k) = let h = size k in let m = more (firsts k) (100 + k) in omega arith

made_is : (nr n : ℕ) (z : ℤ) → nr ≡ CLONE → z ≡ pos n → 0 < n → made nr z ≡ Some n
made_is nr n z h e p = let a : (nr == CLONE) ≡ true = grind (arith, nat_tests) in let b : (n == 0) ≡ false = grind (arith, nat_tests) in rw (e, a, b) refl

pub new_is : (live : List ℕ) (k nr : ℕ) (z : ℤ) → live ≡ firsts k → k < 8 → nr ≡ CLONE → z ≡ pos (100 + k) → IsNew live (made nr z)
new_is live k nr z l h n e =
    let s = size k in
    rw (l, made_is nr (100 + k) z n e (omega arith)) (omega arith, λ (c : Contains (firsts k) (100 + k)). (let q = low k (100 + k) c in omega arith))

pub next_is : (live : List ℕ) (e : Entry) (k : ℕ) → live ≡ firsts k → e.call.nr ≡ CLONE → e.reply.ret ≡ pos (100 + k) → live_next live e ≡ firsts (suc k)
next_is live e k l n r =
    let a : (e.call.nr == 94) ≡ false = grind (arith, nat_tests) in
    let b : (e.call.nr == 93) ≡ false = grind (arith, nat_tests) in
    rw (a, b, made_is e.call.nr (100 + k) e.reply.ret n r (omega arith), l) refl
