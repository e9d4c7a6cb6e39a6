-- Digits of a base, for the standard library's reader.
use Rattle.std.proofs.Common.{◌≡◌, ℕ, zero, suc, ◌<◌, ◌&&◌, Bool, true, false, List, [], ◌∷◌, length, get_or, lit<, refl, arith}
use Rattle.std.specs.Char.{digit_value, is_ascii_digit, is_ascii_hexdigit}
use Rattle.std.specs.List.{list_all}
use Rattle.std.specs.Str.Parse.{AllDigits}
use Rattle.std.proofs.lemmas.Bool.Decides.{nat_tests}
use Rattle.nv_asm.specs.inner.Small.{IsDigits}

record IsDigit (radix byte : ℕ) : Type 0 where
  value : digit_value byte < radix
  ascii : byte < 128
  plain : byte ≡ 43 → ⊥

abbrev AreDigits : ℕ → (ℕ → Bool) → Type 0
AreDigits radix p = (byte : ℕ) → p byte ≡ true → IsDigit radix byte

first : (a b : Bool) → (a && b) ≡ true → a ≡ true
first true b e = refl
first false b e = cc

second : (a b : Bool) → (a && b) ≡ true → b ≡ true
second true b e = e
second false b e = cc

all : (radix : ℕ) (p : ℕ → Bool) (ds : List ℕ) → AreDigits radix p → list_all p ds ≡ true → AllDigits radix ds
all radix p [] each e = tt
all radix p (d ∷ ds) each e = ((each d (first (p d) _ e)).value, all radix p ds each (second (p d) _ e))

ascii : (radix : ℕ) (p : ℕ → Bool) (ds : List ℕ) → AreDigits radix p → list_all p ds ≡ true → (k : ℕ) → get_or ds k 0 < 128
ascii radix p [] each e k = lit< tt
ascii radix p (d ∷ ds) each e zero = (each d (first (p d) _ e)).ascii
ascii radix p (d ∷ ds) each e (suc k) = ascii radix p ds each (second (p d) _ e) k

plain : (radix : ℕ) (p : ℕ → Bool) (ds : List ℕ) → AreDigits radix p → list_all p ds ≡ true → get_or ds 0 0 ≡ 43 → ⊥
plain radix p [] each e h = absurd (omega (arith, h))
plain radix p (d ∷ ds) each e h = (each d (first (p d) _ e)).plain h

digits : (radix : ℕ) (p : ℕ → Bool) (ds : List ℕ) → AreDigits radix p → list_all p ds ≡ true → 0 < length ds → IsDigits radix ds
digits radix p ds each e some = record { numeral = (some, all radix p ds each e); ascii = ascii radix p ds each e; plain = plain radix p ds each e }

decimal-digit : AreDigits 10 is_ascii_digit
decimal-digit byte e = record { value = grind (arith, nat_tests); ascii = grind (arith, nat_tests); plain = λ h. grind (arith, nat_tests, h) }

hexadecimal-digit : AreDigits 16 is_ascii_hexdigit
hexadecimal-digit byte e = record { value = grind (arith, nat_tests); ascii = grind (arith, nat_tests); plain = λ h. grind (arith, nat_tests, h) }

pub decimal-digits : (ds : List ℕ) → list_all is_ascii_digit ds ≡ true → 0 < length ds → IsDigits 10 ds
decimal-digits ds e some = digits 10 is_ascii_digit ds decimal-digit e some

pub hexadecimal-digits : (ds : List ℕ) → list_all is_ascii_hexdigit ds ≡ true → 0 < length ds → IsDigits 16 ds
hexadecimal-digits ds e some = digits 16 is_ascii_hexdigit ds hexadecimal-digit e some
