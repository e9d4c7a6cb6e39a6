-- Laws of ranges and regions.
use Rattle.std.proofs.Common.{◌≡◌, true, ℕ, ◌+◌, ◌≤◌, List, [], ◌∷◌, inl, inr, arith}
use Rattle.std.specs.Prelude.{IsTrue}
use Rattle.std.specs.List.{list_any}
use Rattle.std.proofs.lemmas.Bool.{or_cases, or_left, or_right}
use Rattle.std.proofs.lemmas.Bool.Decides.{nat_tests}
use Rattle.nv_memory.specs.declared.region.Region.{Region}
use Rattle.nv_memory.specs.Region.{lies_in}

part : (rs : List Region) (a n b m : ℕ) → a ≤ b → b + m ≤ a + n → list_any (lies_in a n) rs ≡ true → list_any (lies_in b m) rs ≡ true
part [] a n b m h k t = t
part (r ∷ rs) a n b m h k t = elim (or_cases _ _ t) [
  | inl here ↦ or_left _ _ (at_one here)
  | inr there ↦ or_right _ _ (part rs a n b m h k there)
]
  where
    at_one : lies_in a n r ≡ true → lies_in b m r ≡ true
    at_one here = grind (arith, nat_tests)

-- a part of a range that lies in one region lies there
pub part_of : (rs : List Region) (a n b m : ℕ) → IsTrue (list_any (lies_in a n) rs) → a ≤ b → b + m ≤ a + n → IsTrue (list_any (lies_in b m) rs)
part_of rs a n b m t h k = part rs a n b m h k t
