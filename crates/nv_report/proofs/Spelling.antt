-- Hexadecimal digits as the library spells them.
use Rattle.std.proofs.Common.{◌≡◌, ◌∷◌, ◌/◌, ◌%◌, ◌<◌, ◌==◌, ◌&&◌, ℕ, zero, suc, Bool, true, false, List, [], inl, inr, refl, arith, Fits, w8, slice_index, slice_index_or}
use Rattle.std.specs.Fmt.{digit_glyph}
use Rattle.std.proofs.lemmas.Bool.{and_parts, cases_lt, eqb-true}
use Rattle.hex.specs.Hex.{encode_lower, encode_with, lower_digits}
use Rattle.nv_bytes.specs.Numbers.{hex_of}

-- both spell the digits below this one alike
abbrev agree : ℕ → Bool
agree zero = true
agree (suc n) = (slice_index lower_digits n == digit_glyph false n) && agree n

agree-at : (n v : ℕ) → agree n ≡ true → v < n → slice_index lower_digits v ≡ digit_glyph false v
agree-at zero v alike small = absurd (omega arith)
agree-at (suc n) v alike small =
    let parts = and_parts (slice_index lower_digits n == digit_glyph false n) (agree n) alike in
    elim (cases_lt v n) [
      | inl below ↦ agree-at n v parts.1 below
      | inr last ↦
          let e : v ≡ n = omega arith in
          rw e (eqb-true (slice_index lower_digits n) (digit_glyph false n) parts.0)
    ]

pub spelt : (bytes : List ℕ) → ((i : ℕ) → Fits w8 (slice_index_or bytes i 0)) → encode_lower bytes ≡ hex_of bytes
unfolding encode_with
spelt [] fits = refl
spelt (b ∷ bytes) fits =
    let small : b < 256 = (fits 0).fits in
    let high : b / 16 < 16 = omega arith in
    let low : b % 16 < 16 = omega arith in
    (λ i. agree-at 16 (b / 16) refl high i ∷ agree-at 16 (b % 16) refl low i ∷ spelt bytes (λ k. fits (suc k)) i)
