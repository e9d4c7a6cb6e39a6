-- Lanes that were probed in vain.
use Rattle.std.proofs.Common.{◌≡◌, ℕ, ◌+◌, ◌<◌, true, false, List, [], ◌∷◌, ◌++◌, length, sym, ap, ◌∙◌, subst, refl, arith}
use mathlib.Core.Logic.{dite}
use native.Mathlib.Decide.{ℕ_discrete}
use Rattle.atomic_table.proofs.Lists.{at_longer, at_last}
use Rattle.nv_room.specs.Lanes.{Taken, lives}
use Rattle.nv_room.specs.Room.{Has}

-- one lane more
pub missed_more : (P : ℕ → Type 0) (missed : List ℕ) (lane : ℕ) → ((j : ℕ) → j < lane → P j → Has missed j) → (j : ℕ) → j < lane + 1 → P j → Has (missed ++ lane ∷ []) j
missed_more P missed lane h j below p = dite (ℕ_discrete j lane)
    (λ e. subst (Has (missed ++ lane ∷ [])) (sym e) (length missed, at_last missed lane (length missed) refl))
    (λ ne. let q = h j (omega arith) p in (q.0, at_longer missed (lane ∷ []) q.0 j q.1))

-- one lane that doesn't live
pub missed_passed : (P : ℕ → Type 0) (missed : List ℕ) (lane : ℕ) → ((j : ℕ) → j < lane → P j → Has missed j) → (P lane → ⊥) → (j : ℕ) → j < lane + 1 → P j → Has missed j
missed_passed P missed lane h dead j below p = dite (ℕ_discrete j lane) (λ e. absurd (dead (subst P e p))) (λ ne. h j (omega arith) p)

-- lane 0 lives
pub first_lives : (s : Taken) (lane : ℕ) → lives s lane ≡ false → 0 < lane
first_lives s lane dead = dite (ℕ_discrete lane 0) (λ e. let q : true ≡ false = ap (lives s) (sym e) ∙ dead in cc) (λ ne. omega arith)
