-- Numbers as the code has them.
use Rattle.std.specs.Prelude.{◌≡◌, Bool, ℕ, ◌^◌, Option, Some, None, if◌then◌else◌, ◌&&◌, nat_lt, List, slice_index, ℤ, pos, neg_ℤ, int_le}
use Rattle.std.specs.Str.{IsAscii}
use Rattle.std.specs.Str.Parse.{IsNumeral}

-- a number that has 32 bits
abbrev pub small : ℕ → Option ℕ
small n = if nat_lt n (2 ^ 32) then Some n else None

-- a number that has 32 bits and a sign
abbrev pub small_signed : ℤ → Option ℤ
small_signed z = if int_le (neg_ℤ (pos 4294967295)) z && int_le z (pos 4294967295) then Some z else None

abbrev pub with_sign : Bool → ℕ → ℤ
with_sign negative n = if negative then neg_ℤ (pos n) else pos n

-- digits of a base, one or more
pub record IsDigits (radix : ℕ) (digits : List ℕ) : Type 0 where
  pub numeral : IsNumeral radix digits
  pub ascii : IsAscii digits
  pub plain : slice_index digits 0 ≡ 43 → ⊥
