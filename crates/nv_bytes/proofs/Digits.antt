-- Texts of decimal digits.
use Rattle.std.proofs.Common.{◌≡◌, ℕ, ◌+◌, ◌/◌, ◌^◌, ◌<◌, ◌≤◌, ◌%◌, ◌++◌, append_assoc, drop, set, sym, true, false, nat_lt, lit<, ◌∙◌, List, length, get_or, None, Result, Ok, Err, refl, ap, arith, rules}
use Rattle.std.specs.Char.{is_ascii_digit}
use Rattle.std.specs.Fmt.{decimal}
use Rattle.std.specs.List.{list_all}
use Rattle.std.specs.Result.{result_ok}
use Rattle.std.specs.Str.{IsAscii}
use Rattle.std.specs.Str.Parse.{digits_value, ParsesUnsigned}
use Rattle.std.proofs.lemmas.Str.Parse.{IsNumeralModel, numerals_by_value, parse_digits, digit_at}
use Rattle.std.proofs.lemmas.Bool.Decides.{nat_tests}
use Rattle.std.proofs.lemmas.Fmt.{decimal_is_IsNumeral, decimal_step, decimal_digit, length-decimal-le}
use Rattle.std.proofs.lemmas.List.{get_or_past, length_push, drop-set}
use borrow.Author.Tests.{ltb-true, ltb-false}
use Rattle.nv_bytes.specs.Numbers.{number_of}

own : IsNumeralModel (λ ds. list_all is_ascii_digit ds ≡ true) (digits_value 10)
own = numerals_by_value _ (search rules)

pub number-refused : (text : List ℕ) → list_all is_ascii_digit text ≡ false → number_of text ≡ None
unfolding number_of
number-refused text e = rw e refl

pub number-parsed : {E : Type 0} (text : List ℕ) (r : Result ℕ E) → list_all is_ascii_digit text ≡ true → ParsesUnsigned 32 10 text r → result_ok r ≡ number_of text
unfolding number_of
number-parsed {E = E} text (Ok x) e h =
    let p = parse_digits own {E = E} 32 text (Ok x) h e in
    rw e (grind (arith, nat_tests, p))
number-parsed {E = E} text (Err x) e h =
    let p = parse_digits own {E = E} 32 text (Err x) h e in
    rw e (grind (arith, nat_tests, p))

pub ascii-digits : (text : List ℕ) → list_all is_ascii_digit text ≡ true → IsAscii text
ascii-digits text e k =
    elim (nat_lt k (length text)) as (λ v. nat_lt k (length text) ≡ v → get_or text k 0 < 128) [
      | true ↦ λ below. let digit = digit_at text k (own.to text e) (ltb-true k (length text) below) in omega (arith, digit)
      | false ↦ λ past. rw (get_or_past text k 0 (omega (arith, ltb-false k (length text) past))) (lit< tt)
    ] refl

pub length-decimal_step : (n : ℕ) → 10 ≤ n → n < 2 ^ 64 → length (decimal n) ≡ length (decimal (n / 10)) + 1
length-decimal_step n low high = ap length (decimal_step n low high) ∙ length_push (decimal (n / 10)) (48 + n % 10)

pub length-decimal_digit : (n : ℕ) → n < 10 → length (decimal n) ≡ 1
length-decimal_digit n low = ap length (decimal_digit n low)

pub length-decimal : (n : ℕ) → n < 2 ^ 64 → length (decimal n) ≤ 20
length-decimal n high = length-decimal-le 20 n (lit< tt) (omega arith) high

-- one more digit of the rest is written
pub digit-written : (value rest place : ℕ) (out : List ℕ) → decimal value ≡ decimal rest ++ drop (place + 1) out → place < length out → 10 ≤ rest → rest < 2 ^ 64 →
    decimal value ≡ decimal (rest / 10) ++ drop place (set out place (48 + rest % 10))
digit-written value rest place out so_far inside low high =
    so_far ∙ ap (λ (xs : List ℕ). xs ++ drop (place + 1) out) (decimal_step rest low high) ∙ append_assoc (decimal (rest / 10)) _ _ ∙ ap (λ (xs : List ℕ). decimal (rest / 10) ++ xs) (sym (drop-set out place (48 + rest % 10) inside))

-- the first digit is written
pub first-written : (value rest : ℕ) (out : List ℕ) → decimal value ≡ decimal rest ++ drop 1 out → 0 < length out → rest < 10 → set out 0 (48 + rest) ≡ decimal value
first-written value rest out so_far inside low =
    drop-set out 0 (48 + rest) inside ∙ ap (λ (xs : List ℕ). xs ++ drop 1 out) (sym (decimal_digit rest low)) ∙ sym so_far

pub length-decimal_pos : (n : ℕ) → n < 2 ^ 64 → 0 < length (decimal n)
length-decimal_pos n high = omega (arith, (decimal_is_IsNumeral n high).0.0)
