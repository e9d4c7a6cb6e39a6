-- A list of six numbers, each in range.
use Rattle.std.proofs.Common.{◌≡◌, sym, subst, ℕ, zero, suc, ◌<◌, List, [], ◌∷◌, length, arith, slice_index_or}
use mathlib.Core.Option.{some, some-ne-none, some-injective}
use lib.ListN.{get_elem?}

pub six_below : (m : ℕ) (xs : List ℕ) → length xs ≡ 6 → slice_index_or xs 0 0 < m → slice_index_or xs 1 0 < m → slice_index_or xs 2 0 < m → slice_index_or xs 3 0 < m → slice_index_or xs 4 0 < m → slice_index_or xs 5 0 < m → (i x : ℕ) → get_elem? xs i ≡ some x → x < m
six_below m (a ∷ b ∷ c ∷ d ∷ e ∷ f ∷ []) n p q r s t u zero x h = subst (λ (z : ℕ). z < m) (some-injective a x h) p
six_below m (a ∷ b ∷ c ∷ d ∷ e ∷ f ∷ []) n p q r s t u (suc zero) x h = subst (λ (z : ℕ). z < m) (some-injective b x h) q
six_below m (a ∷ b ∷ c ∷ d ∷ e ∷ f ∷ []) n p q r s t u (suc (suc zero)) x h = subst (λ (z : ℕ). z < m) (some-injective c x h) r
six_below m (a ∷ b ∷ c ∷ d ∷ e ∷ f ∷ []) n p q r s t u (suc (suc (suc zero))) x h = subst (λ (z : ℕ). z < m) (some-injective d x h) s
six_below m (a ∷ b ∷ c ∷ d ∷ e ∷ f ∷ []) n p q r s t u (suc (suc (suc (suc zero)))) x h = subst (λ (z : ℕ). z < m) (some-injective e x h) t
six_below m (a ∷ b ∷ c ∷ d ∷ e ∷ f ∷ []) n p q r s t u (suc (suc (suc (suc (suc zero))))) x h = subst (λ (z : ℕ). z < m) (some-injective f x h) u
six_below m (a ∷ b ∷ c ∷ d ∷ e ∷ f ∷ []) n p q r s t u (suc (suc (suc (suc (suc (suc i)))))) x h = absurd (some-ne-none x (sym h))
six_below m [] n p q r s t u i x h = absurd (omega arith)
six_below m (a ∷ []) n p q r s t u i x h = absurd (omega arith)
six_below m (a ∷ b ∷ []) n p q r s t u i x h = absurd (omega arith)
six_below m (a ∷ b ∷ c ∷ []) n p q r s t u i x h = absurd (omega arith)
six_below m (a ∷ b ∷ c ∷ d ∷ []) n p q r s t u i x h = absurd (omega arith)
six_below m (a ∷ b ∷ c ∷ d ∷ e ∷ []) n p q r s t u i x h = absurd (omega arith)
six_below m (a ∷ b ∷ c ∷ d ∷ e ∷ f ∷ g ∷ gs) n p q r s t u i x h = absurd (omega arith)
