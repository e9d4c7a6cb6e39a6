-- Registers and numbers of an assembler text.
use Rattle.std.specs.Prelude.{ℕ, Bool, ◌&&◌, List, [], ◌∷◌, Option, Some, None, if◌then◌else◌, ◌==◌, nat_lt, nat_le, ◌+◌, ◌-◌, ◌*◌, length, codes, option_map, is_some, ℤ, pos, neg_ℤ, int_le}
use Rattle.std.specs.List.{list_all}
use Rattle.std.specs.Option.{option_or}
use Rattle.std.specs.Char.{is_ascii_digit, is_ascii_hexdigit}
use Rattle.std.specs.Str.Parse.{digits_value}
use Rattle.nv_bytes.specs.Lines.{is_digit}
use Rattle.nv_bytes.specs.Names.{defined}

-- the registers' names by their use
unfoldable pub registers : List (List ℕ × ℕ)
registers =
    (codes "zero", 0) ∷ (codes "ra", 1) ∷ (codes "sp", 2) ∷ (codes "gp", 3) ∷ (codes "tp", 4) ∷ (codes "t0", 5) ∷ (codes "t1", 6) ∷ (codes "t2", 7) ∷
    (codes "s0", 8) ∷ (codes "fp", 8) ∷ (codes "s1", 9) ∷ (codes "a0", 10) ∷ (codes "a1", 11) ∷ (codes "a2", 12) ∷ (codes "a3", 13) ∷ (codes "a4", 14) ∷
    (codes "a5", 15) ∷ (codes "a6", 16) ∷ (codes "a7", 17) ∷ (codes "s2", 18) ∷ (codes "s3", 19) ∷ (codes "s4", 20) ∷ (codes "s5", 21) ∷ (codes "s6", 22) ∷
    (codes "s7", 23) ∷ (codes "s8", 24) ∷ (codes "s9", 25) ∷ (codes "s10", 26) ∷ (codes "s11", 27) ∷ (codes "t3", 28) ∷ (codes "t4", 29) ∷ (codes "t5", 30) ∷
    (codes "t6", 31) ∷ []

-- x0 to x31
abbrev pub numbered_register : List ℕ → Option ℕ
numbered_register (x ∷ d ∷ []) = if (x == 120) && is_digit d then Some (d - 48) else None
numbered_register (x ∷ d ∷ e ∷ []) = if (x == 120) && nat_le 49 d && is_digit d && is_digit e && nat_lt (10 * (d - 48) + (e - 48)) 32 then Some (10 * (d - 48) + (e - 48)) else None
numbered_register _ = None

unfoldable pub register_named : List ℕ → Option ℕ
register_named text = option_or (numbered_register text) (defined registers text)

abbrev pub decimal : List ℕ → Option ℕ
decimal digits = if list_all is_ascii_digit digits && nat_lt 0 (length digits) then Some (digits_value 10 digits) else None

abbrev pub hexadecimal : List ℕ → Option ℕ
hexadecimal digits = if list_all is_ascii_hexdigit digits && nat_lt 0 (length digits) then Some (digits_value 16 digits) else None

-- decimal digits, or hexadecimal ones after 0x
abbrev pub magnitude : List ℕ → Option ℕ
magnitude (a ∷ b ∷ digits) = if (a == 48) && (b == 120) then hexadecimal digits else decimal (a ∷ b ∷ digits)
magnitude digits = decimal digits

abbrev pub signed : List ℕ → Option ℤ
signed [] = None
signed (b ∷ digits) = if b == 45 then option_map (λ n. neg_ℤ (pos n)) (magnitude digits) else option_map pos (magnitude (b ∷ digits))

-- a number of any size
unfoldable pub literal : List ℕ → Option ℤ
literal text = signed text

abbrev pub is_number : List ℕ → Bool
is_number text = is_some (literal text)

abbrev pub within : ℤ → ℤ → ℤ → Option ℤ
within least most z = if int_le least z && int_le z most then Some z else None

-- a number: what is none is None, and what is off its range is Some None
unfoldable pub number : ℤ → ℤ → List ℕ → Option (Option ℤ)
number least most text = option_map (within least most) (literal text)

abbrev pub number_of_12_bits : List ℕ → Option (Option ℤ)
number_of_12_bits text = number (neg_ℤ (pos 2048)) (pos 2047) text

abbrev pub number_of_32_bits : List ℕ → Option (Option ℤ)
number_of_32_bits text = number (neg_ℤ (pos 2147483648)) (pos 4294967295) text

abbrev pub number_of_8_bits : List ℕ → Option (Option ℤ)
number_of_8_bits text = number (neg_ℤ (pos 128)) (pos 255) text
