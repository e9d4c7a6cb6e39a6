-- Numbers that are kept beside a view's, when both change at a place.
use Rattle.std.proofs.Common.{ℕ, zero, suc, ◌<◌, ◌≤◌, List, [], ◌∷◌, length, set, get_or, length-set, arith}
use Rattle.nv_room.specs.Caches.{AtMost}

at_most_at : (kept floors : List ℕ) (s q r k : ℕ) → q ≤ r → get_or kept k 0 ≤ get_or floors k 0 → k < length floors → get_or (set kept s q) k 0 ≤ get_or (set floors s r) k 0
at_most_at [] floors s q r k le h within = omega arith
at_most_at (x ∷ xs) [] s q r k le h within = absurd (omega arith)
at_most_at (x ∷ xs) (y ∷ ys) zero q r zero le h within = omega arith
at_most_at (x ∷ xs) (y ∷ ys) zero q r (suc k) le h within = h
at_most_at (x ∷ xs) (y ∷ ys) (suc s) q r zero le h within = h
at_most_at (x ∷ xs) (y ∷ ys) (suc s) q r (suc k) le h within = at_most_at xs ys s q r k le h (omega arith)

-- the kept number may be lower
pub kept_at_most : (kept floors : List ℕ) (s q r : ℕ) → q ≤ r → AtMost kept floors → AtMost (set kept s q) (set floors s r)
kept_at_most kept floors s q r le h = λ k within. (let w : k < length floors = omega (arith, within, length-set floors s r) in at_most_at kept floors s q r k le (h k w) w)
