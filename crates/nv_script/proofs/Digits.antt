-- Decimal texts: what reads them back, and what bytes they don't have.
use Rattle.std.proofs.Common.{◌≡◌, ℕ, ◌<◌, ◌^◌, ◌==◌, ◌&&◌, nat_lt, Bool, true, false, cond, List, [], ◌∷◌, Some, None, length, refl, subst, arith}
use Rattle.std.specs.List.{All, list_all}
use Rattle.std.specs.Char.{is_ascii_digit, digit_value}
use Rattle.std.specs.Str.Parse.{AllDigits, digits_value}
use Rattle.std.proofs.lemmas.Bool.{and_parts}
use Rattle.std.proofs.lemmas.Bool.Decides.{nat_tests}
use Rattle.std.proofs.lemmas.List.Elements.{All-nil, All-cons}
use Rattle.std.proofs.lemmas.Str.Parse.{digit_from_value}
use Rattle.std.proofs.lemmas.Fmt.{decimal_is_IsNumeral}
use Rattle.nv_bytes.specs.Numbers.{number_of, decimal_of}

is_digit : (c : ℕ) → digit_value c < 10 → is_ascii_digit c ≡ true
is_digit c h = let range = digit_from_value c h in grind (arith, nat_tests)

all_digits : (ds : List ℕ) → AllDigits 10 ds → list_all is_ascii_digit ds ≡ true
all_digits [] h = refl
all_digits (c ∷ cs) h = rw (is_digit c h.0) (all_digits cs h.1)

-- a byte below the digits isn't among them
no_digit : (byte c : ℕ) → byte < 48 → digit_value c < 10 → (c == byte) ≡ false
no_digit byte c low h = let range = digit_from_value c h in grind (arith, nat_tests)

no_digits : (byte : ℕ) (ds : List ℕ) → byte < 48 → AllDigits 10 ds → All (λ c. (c == byte) ≡ false) ds
no_digits byte [] low h = All-nil (λ c. (c == byte) ≡ false)
no_digits byte (c ∷ cs) low h = All-cons (λ d. (d == byte) ≡ false) c cs (no_digit byte c low h.0) (no_digits byte cs low h.1)

pub decimal-lacks : (byte n : ℕ) → byte < 48 → n < 2 ^ 32 → All (λ c. (c == byte) ≡ false) (decimal_of n)
decimal-lacks byte n low small = no_digits byte (decimal_of n) low (decimal_is_IsNumeral n (omega arith)).0.1

numbered : (text : List ℕ) (n : ℕ) → list_all is_ascii_digit text ≡ true → 0 < length text → digits_value 10 text ≡ n → n < 2 ^ 32 → number_of text ≡ Some n
unfolding number_of
numbered text n digits some value small = rw (digits, value) (grind (arith, nat_tests))

pub number_of-decimal : (n : ℕ) → n < 2 ^ 32 → number_of (decimal_of n) ≡ Some n
number_of-decimal n small =
    let numeral = decimal_is_IsNumeral n (omega arith) in
    numbered (decimal_of n) n (all_digits (decimal_of n) numeral.0.1) numeral.0.0 numeral.1 small

-- a number that was read has 32 bits
pub number_of-fits : (text : List ℕ) (n : ℕ) → number_of text ≡ Some n → nat_lt n (2 ^ 32) ≡ true
unfolding number_of
number_of-fits text n e = step (list_all is_ascii_digit text && nat_lt 0 (length text) && nat_lt (digits_value 10 text) (2 ^ 32)) refl e where
  step : (x : Bool) → (list_all is_ascii_digit text && nat_lt 0 (length text) && nat_lt (digits_value 10 text) (2 ^ 32)) ≡ x → cond x (Some (digits_value 10 text)) None ≡ Some n → nat_lt n (2 ^ 32) ≡ true
  step true fits h =
      let same : digits_value 10 text ≡ n = cc in
      subst (λ (m : ℕ). nat_lt m (2 ^ 32) ≡ true) same (and_parts (list_all is_ascii_digit text && nat_lt 0 (length text)) _ fits).1
  step false fits h = cc
