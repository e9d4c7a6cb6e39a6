-- What a write or a region's end doesn't touch.
use Rattle.std.proofs.Common.{◌≡◌, ◌≢◌, true, ℕ, suc, zero, ◌+◌, ◌-◌, ◌<◌, ◌≤◌, ◌⊎◌, Bool, false, min, max, replicate, ◌/◌, List, [], ◌∷◌, length, get_or, set, inl, inr, refl, ap, ◌∙◌, arith}
use Rattle.std.specs.List.{list_any}
use Rattle.std.proofs.lemmas.List.{get_or-set_other}
use Rattle.std.proofs.lemmas.Bool.{or_cases, or_left, or_right}
use Rattle.std.proofs.lemmas.Bool.Decides.{nat_tests}
use Rattle.nv_memory.specs.declared.region.Region.{Region}
use Rattle.nv_memory.specs.declared.region.Right.{Right}
use Rattle.nv_memory.specs.Bytes.{bytes_at, put, little_bytes}
use Rattle.nv_memory.specs.Image.{cut}
use Rattle.std.specs.Prelude.{if◌then◌else◌, nat_lt}
use Rattle.std.proofs.lemmas.List.{length-replicate}
use Rattle.nv_memory.proofs.BytesLaws.{length_put}
use Rattle.nv_memory.specs.Region.{covers, holds, end_of, set_end}

-- the bytes of a range after a write of one byte outside of it
pub set_apart : (bytes : List ℕ) (a b p n : ℕ) → (p + n ≤ a) ⊎ (a < p) → bytes_at (set bytes a b) p n ≡ bytes_at bytes p n
set_apart bytes a b p zero h = refl
set_apart bytes a b p (suc n) h =
    let other : p ≢ a = λ e. elim h [ inl before ↦ absurd (omega (arith, before, e)) | inr after ↦ absurd (omega (arith, after, e)) ] in
    let rest : (p + 1 + n ≤ a) ⊎ (a < p + 1) = elim h [ inl before ↦ inl (omega (arith, before)) | inr after ↦ inr (omega (arith, after)) ] in
    ap (λ (x : ℕ). x ∷ bytes_at (set bytes a b) (p + 1) n) (get_or-set_other bytes a p b 0 other) ∙ ap (λ (xs : List ℕ). get_or bytes p 0 ∷ xs) (set_apart bytes a b (p + 1) n rest)

-- the bytes of a range after a write outside of it
pub put_apart : (bytes : List ℕ) (a : ℕ) (from : List ℕ) (p n : ℕ) → (p + n ≤ a) ⊎ (a + length from ≤ p) → bytes_at (put bytes a from) p n ≡ bytes_at bytes p n
put_apart bytes a [] p n h = refl
put_apart bytes a (b ∷ bs) p n h =
    let one : (p + n ≤ a) ⊎ (a < p) = elim h [ inl before ↦ inl before | inr after ↦ inr (omega (arith, after)) ] in
    let rest : (p + n ≤ a + 1) ⊎ (a + 1 + length bs ≤ p) = elim h [ inl before ↦ inl (omega (arith, before)) | inr after ↦ inr (omega (arith, after)) ] in
    put_apart (set bytes a b) (a + 1) bs p n rest ∙ set_apart bytes a b p n one

-- the bytes of a range that the move of an end doesn't touch
pub cut_apart : (bytes : List ℕ) (before end p n : ℕ) → (p + n ≤ min before end) ⊎ (max before end ≤ p) → bytes_at (cut bytes before end) p n ≡ bytes_at bytes p n
cut_apart bytes before end p n h = go (nat_lt end before)
  where
    outside : (p + n ≤ end) ⊎ (end + length {A = ℕ} (replicate (before - end) 0) ≤ p)
    outside = elim h [ inl below ↦ inl (omega (arith, below)) | inr above ↦ inr (omega (arith, above, length-replicate {A = ℕ} (before - end) 0)) ]

    go : (b : Bool) → bytes_at (if b then put bytes end (replicate (before - end) 0) else bytes) p n ≡ bytes_at bytes p n
    go true = put_apart bytes end (replicate (before - end) 0) p n outside
    go false = refl

-- as many bytes as before
pub length_cut : (bytes : List ℕ) (before end : ℕ) → length (cut bytes before end) ≡ length bytes
length_cut bytes before end = go (nat_lt end before)
  where
    go : (b : Bool) → length (if b then put bytes end (replicate (before - end) 0) else bytes) ≡ length bytes
    go true = length_put bytes end (replicate (before - end) 0)
    go false = refl

pub length_little : (n v : ℕ) → length (little_bytes n v) ≡ n
length_little zero v = refl
length_little (suc n) v = ap suc (length_little n (v / 256))

-- a range that one region covers is still covered after a region's end has moved, but for what lies between the two ends
pub covered_still : (rs : List Region) (k end a n : ℕ) (right : Right) → (a + n ≤ end) ⊎ (end_of rs k < a + n) → list_any (covers a n right) rs ≡ true → list_any (covers a n right) (set_end rs k end) ≡ true
covered_still [] k end a n right h t = t
covered_still (r ∷ rs) (suc k) end a n right h t = elim (or_cases (covers a n right r) (list_any (covers a n right) rs) t) [
  | inl here ↦ or_left (covers a n right r) (list_any (covers a n right) (set_end rs k end)) here
  | inr there ↦ or_right (covers a n right r) (list_any (covers a n right) (set_end rs k end)) (covered_still rs k end a n right h there)
]
covered_still (r ∷ rs) zero end a n right h t = elim (or_cases (covers a n right r) (list_any (covers a n right) rs) t) [
  | inl here ↦ or_left (covers a n right (record r { end = end })) (list_any (covers a n right) rs) (at_one here)
  | inr there ↦ or_right (covers a n right (record r { end = end })) (list_any (covers a n right) rs) there
]
  where
    at_one : covers a n right r ≡ true → covers a n right (record r { end = end }) ≡ true
    at_one here = elim h [
      | inl below ↦ grind (arith, nat_tests, here, below)
      | inr past ↦ grind (arith, nat_tests, here, past)
    ]

-- the same of what is held
pub held_still : (rs : List Region) (k end a : ℕ) (right : Right) → (a + 4 ≤ end) ⊎ (end_of rs k ≤ a) → holds rs a 4 right ≡ true → holds (set_end rs k end) a 4 right ≡ true
held_still rs k end a right h t = covered_still rs k end a 4 right (elim h [ inl below ↦ inl below | inr past ↦ inr (omega (arith, past)) ]) t
