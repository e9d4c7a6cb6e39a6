-- The first events of a list.
use Rattle.std.proofs.Common.{◌≡◌, ℕ, zero, suc, List, [], ◌∷◌, length, map, take, min, refl, ap, arith, ◌∙◌}
use Rattle.nv_calls.specs.declared.calls.Event.{Event}
use Rattle.nv_calls.specs.Calls.{entry}

pub map_take : (n : ℕ) (log : List Event) → map entry (take n log) ≡ take n (map entry log)
map_take zero log = refl
map_take (suc n) [] = refl
map_take (suc n) (e ∷ log) = ap (λ t. entry e ∷ t) (map_take n log)

pub take_least : (n : ℕ) (log : List Event) → take (min n (length log)) log ≡ take n log
take_least zero log = let e : min 0 (length log) ≡ 0 = omega arith in ap (λ k. take k log) e
take_least (suc n) [] = let e : min (suc n) 0 ≡ 0 = omega arith in ap (λ k. take k ([])) e
take_least (suc n) (x ∷ log) = let e : min (suc n) (suc (length log)) ≡ suc (min n (length log)) = omega arith in ap (λ k. take k (x ∷ log)) e ∙ ap (λ t. x ∷ t) (take_least n log)
