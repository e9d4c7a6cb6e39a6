use Rattle.std.proofs.Common.{◌≡◌, ◌<◌, [], ◌∷◌, ℕ, zero, suc, List, take, get_or, subst, sym}
use mathlib.Core.Option.{some, some-ne-none, some-injective}
use lib.ListN.{get_elem?}
use Rattle.nv_calls.proofs.bytes.first.Goals as goal

-- what stands in the beginning of a list stands in the list
in_prefix : (n : ℕ) (xs : List ℕ) (i x : ℕ) → get_elem? (take n xs) i ≡ some x → get_or xs i 0 ≡ x
in_prefix zero xs i x h = absurd (some-ne-none x (sym h))
in_prefix (suc n) [] i x h = absurd (some-ne-none x (sym h))
in_prefix (suc n) (y ∷ ys) zero x h = some-injective y x h
in_prefix (suc n) (y ∷ ys) (suc i) x h = in_prefix n ys i x h

pub returns-clause-below : goal.returns-clause-below
returns-clause-below c i x h = let P : ℕ → Type 0 = λ z. z < 256 in subst P (in_prefix c.args.len c.args.held.now i x h) (c.type_inv.held i).fits
