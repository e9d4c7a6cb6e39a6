-- The end of a region of a list.
use Rattle.std.proofs.Common.{◌≡◌, ℕ, suc, zero, ◌<◌, ◌≤◌, List, [], ◌∷◌, length, get_or, set, refl, ap, arith}
use Rattle.nv_memory.specs.declared.region.Region.{Region}
use Rattle.nv_memory.specs.Region.{end_of, set_end, AreRegions}

pub end_of_get : (rs : List Region) (i : ℕ) (d : Region) → i < length rs → end_of rs i ≡ (get_or rs i d).end
end_of_get [] i d h = absurd (omega arith)
end_of_get (r ∷ rs) zero d h = refl
end_of_get (r ∷ rs) (suc i) d h = end_of_get rs i d (omega arith)

pub set_end_set : (rs : List Region) (i e : ℕ) (d : Region) → i < length rs → set rs i (record (get_or rs i d) { end = e }) ≡ set_end rs i e
set_end_set [] i e d h = absurd (omega arith)
set_end_set (r ∷ rs) zero e d h = refl
set_end_set (r ∷ rs) (suc i) e d h = ap (λ (xs : List Region). r ∷ xs) (set_end_set rs i e d (omega arith))

pub end_is_inside : (size : ℕ) (rs : List Region) (i : ℕ) → AreRegions size rs → i < length rs → end_of rs i ≤ size
end_is_inside size [] i ok h = absurd (omega arith)
end_is_inside size (r ∷ rs) zero ok h = ok.0
end_is_inside size (r ∷ rs) (suc i) ok h = end_is_inside size rs i ok.2 (omega arith)
