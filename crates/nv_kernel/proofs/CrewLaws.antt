-- The numbers of the threads that live: each was given, and a child's is new.
use Rattle.std.proofs.Common.{◌≡◌, refl, ℕ, zero, suc, ◌+◌, ◌<◌, ◌⊎◌, inl, inr, ⊎_elim, Bool, true, false, cond, ◌==◌, not, nat_lt, List, [], ◌∷◌, ◌++◌, length, arith}
use Rattle.std.specs.Prelude.{Contains, filter}
use Rattle.std.proofs.lemmas.Bool.Decides.{nat_tests}
use Rattle.nv_calls.specs.Logs.{made, with_child, IsNew}
use Rattle.nv_kernel.specs.Crew.{Crew, IsCrew, first_crew, clone_as, exit_of}

pub first_is : IsCrew first_crew
first_is t (zero, h, e) = omega (arith, e)
first_is t (suc k, h, e) = absurd (omega arith)

at_end : (xs : List ℕ) (y r : ℕ) → Contains (xs ++ y ∷ []) r → Contains xs r ⊎ (y ≡ r)
at_end [] y r (zero, h, e) = inr e
at_end [] y r (suc k, h, e) = absurd (omega arith)
at_end (x ∷ xs) y r (zero, h, e) = inl (0, omega arith, e)
at_end (x ∷ xs) y r (suc k, h, e) = ⊎_elim (λ (c : Contains xs r). inl (suc c.0, omega (arith, c.1), c.2)) (λ (f : y ≡ r). inr f) (at_end xs y r (k, omega arith, e))

kept : (xs : List ℕ) (p : ℕ → Bool) (r : ℕ) → Contains (filter p xs) r → Contains xs r
kept [] p r c = c
kept (x ∷ xs) p r c = by (p x) c (kept xs p r)
  where
    by : (b : Bool) → Contains (cond b (x ∷ filter p xs) (filter p xs)) r → (Contains (filter p xs) r → Contains xs r) → Contains (x ∷ xs) r
    by true (zero, h, e) go = (0, omega arith, e)
    by true (suc k, h, e) go = let d = go (k, omega arith, e) in (suc d.0, omega (arith, d.1), d.2)
    by false c go = let d = go c in (suc d.0, omega (arith, d.1), d.2)

pub clone_crew : (s : Crew) (a b : Bool) → IsCrew s → IsCrew (clone_as s a b).1
clone_crew s false b h t c = h t c
clone_crew s true true h t c = h t c
clone_crew s true false h t c = ⊎_elim (λ (c : Contains s.live t). (let k = h t c in omega arith)) (λ (e : 101 + s.clones ≡ t). omega arith) (at_end s.live (101 + s.clones) t c)

pub exit_crew : (s : Crew) (tid : ℕ) → IsCrew s → IsCrew (exit_of s tid)
exit_crew s tid h t c = h t (kept s.live (λ u. not (u == tid)) t c)

-- a child's number is new, and the threads that live are those that the log says
pub clone_new : (s : Crew) (a b : Bool) (nr : ℕ) → nr ≡ 220 → b ≡ not (nat_lt (length s.live) 8) → IsCrew s
    → IsNew s.live (made nr (clone_as s a b).0) × ((clone_as s a b).1.live ≡ with_child s.live (made nr (clone_as s a b).0))
clone_new s false b nr n e h = (tt, refl)
clone_new s true true nr n e h = (tt, refl)
clone_new s true false nr n e h =
    let z : (nr == 220) ≡ true = grind (arith, nat_tests) in
    let few : length s.live < 8 = (let f : nat_lt (length s.live) 8 ≡ true = by (nat_lt (length s.live) 8) e in grind (arith, nat_tests)) in
    let some : (101 + s.clones == 0) ≡ false = grind (arith, nat_tests) in
    rw (z, some) ((few, λ (c : Contains s.live (101 + s.clones)). (let k = h (101 + s.clones) c in omega arith)), refl)
  where
    by : (x : Bool) → false ≡ not x → x ≡ true
    by true e = refl
    by false e = cc
