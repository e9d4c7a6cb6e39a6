-- What all seats have left, and who has still to leave.
use Rattle.std.proofs.Common.{◌≡◌, ◌⊎◌, ℕ, zero, suc, ◌+◌, ◌*◌, ◌<◌, ◌≤◌, List, [], ◌∷◌, length, set, sym, refl, ap, subst, inl, inr, ⊎_elim, arith}
use Rattle.std.proofs.Math.Nat.{suc-mul}
use mathlib.Core.Logic.{dite}
use mathlib.Core.Option.{some, some-injective, some-ne-none}
use native.Mathlib.Decide.{ℕ_discrete}
use lib.ListN.{get_elem?}
use Rattle.nv_room.specs.declared.view.View.{View}
use Rattle.nv_room.specs.declared.view.Role.{Role}
use Rattle.nv_room.specs.declared.view.Role.TheVariants.{Reader, Lead, Opening, Leaving, Moving, Gone, Spent}
use Rattle.nv_laws.specs.GetsOn.{Stays, SomeStays}
use Rattle.nv_laws.specs.Steps.{steps_left, turns_at}
use Rattle.nv_calls.specs.Limits.{MOST_EVENTS}
use Rattle.nv_laws.proofs.Falling.{at_most_four}
use Rattle.nv_laws.specs.Runs.{steps_of, turns_of}

stays_or_not : (role : Role) → Stays role ⊎ (Stays role → ⊥)
stays_or_not Reader = inl tt
stays_or_not Lead = inl tt
stays_or_not Opening = inl tt
stays_or_not Leaving = inl tt
stays_or_not Moving = inl tt
stays_or_not Gone = inr (λ s. s)
stays_or_not Spent = inr (λ s. s)

stays_some : (role : Role) → Stays role → 0 < turns_at role
stays_some Reader s = omega arith
stays_some Lead s = omega arith
stays_some Opening s = omega arith
stays_some Leaving s = omega arith
stays_some Moving s = omega arith
stays_some Gone s = absurd s
stays_some Spent s = absurd s

module _ {T : Type 0} where
  -- one seat's step, of g that get on
  pub steps_fall : (n : ℕ) (vs : List (View T)) (id g : ℕ) (v w : View T) → get_elem? vs id ≡ some v → g + steps_left n w ≤ steps_left n v → g + steps_of n (set vs id w) ≤ steps_of n vs
  steps_fall n [] id g v w at le = absurd (some-ne-none v (sym at))
  steps_fall n (x ∷ xs) zero g v w at le = let e = ap (λ (z : View T). steps_left n z) (some-injective x v at) in omega arith
  steps_fall n (x ∷ xs) (suc id) g v w at le = let q = steps_fall n xs id g v w at le in omega arith

  left_some : (n : ℕ) (vs : List (View T)) (j : ℕ) (v : View T) → get_elem? vs j ≡ some v → Stays v.role → 0 < steps_of n vs
  left_some n [] j v at s = absurd (some-ne-none v (sym at))
  left_some n (x ∷ xs) zero v at s = let a = stays_some v.role s in let e = ap (λ (z : View T). turns_at z.role) (some-injective x v at) in omega arith
  left_some n (x ∷ xs) (suc j) v at s = let q = left_some n xs j v at s in omega arith

  -- who has still to leave has a step left
  pub some_left : (n : ℕ) (vs : List (View T)) → SomeStays vs → 0 < steps_of n vs
  some_left n vs q = left_some n vs q.0 q.1 q.2 q.3

  none_more : (x : View T) (xs : List (View T)) → (Stays x.role → ⊥) → (SomeStays xs → ⊥) → (j : ℕ) (v : View T) → get_elem? (x ∷ xs) j ≡ some v → Stays v.role → ⊥
  none_more x xs first others zero v at s = first (subst (λ (z : View T). Stays z.role) (sym (some-injective x v at)) s)
  none_more x xs first others (suc j) v at s = others (j, v, at, s)

  pub some_or_none : (vs : List (View T)) → SomeStays vs ⊎ (SomeStays vs → ⊥)
  some_or_none [] = inr (λ q. some-ne-none q.1 (sym q.2))
  some_or_none (x ∷ xs) = ⊎_elim
      (λ (s : Stays x.role). inl (0, x, refl, s))
      (λ (first : Stays x.role → ⊥). ⊎_elim
      (λ (q : SomeStays xs). inl (suc q.0, q.1, q.2, q.3))
      (λ (others : SomeStays xs → ⊥). inr (λ q. none_more x xs first others q.0 q.1 q.2 q.3))
      (some_or_none xs))
      (stays_or_not x.role)

module _ (f g : ℕ → ℕ) (falls : (j : ℕ) → g j ≤ f j) where
  pub turns_stay : (k : ℕ) → turns_of g k ≤ turns_of f k
  turns_stay zero = omega arith
  turns_stay (suc k) = let q = turns_stay k in let a = falls k in omega arith

  pub turns_fall : (k j : ℕ) → j < k → g j < f j → turns_of g k < turns_of f k
  turns_fall zero j near less = absurd (omega arith)
  turns_fall (suc k) j near less = dite (ℕ_discrete j k)
      (λ e. let a : g k < f k = subst (λ (z : ℕ). g z < f z) e less in let q = turns_stay k in omega arith)
      (λ ne. let q = turns_fall k j (omega arith) less in let a = falls k in omega arith)

module _ {T : Type 0} (n : ℕ) where
  -- what a seat and its worker have left at most, for each of them
  all_below : (c : ℕ) (vs : List (View T)) (left : ℕ → ℕ) (m : ℕ) → ((v : View T) → steps_left n v ≤ c) → ((j : ℕ) → left j ≤ m) → steps_of n vs + turns_of left (length vs) ≤ length vs * (c + m)
  all_below c [] left m each few = omega arith
  all_below c (v ∷ vs) left m each few =
      let q = all_below c vs left m each few in
      let a = each v in
      let b = few (length vs) in
      let e = suc-mul (length vs) (c + m) in
      omega arith

  pub all_few : (vs : List (View T)) (left : ℕ → ℕ) (m : ℕ) → ((j : ℕ) → left j ≤ m) → steps_of n vs + turns_of left (length vs) ≤ length vs * (MOST_EVENTS + 4 * n + 4 + m)
  all_few vs left m few = all_below (MOST_EVENTS + 4 * n + 4) vs left m (λ v. let a = at_most_four v.role in omega arith) few
