-- What the texts of numbers and bytes stand for.
use Rattle.std.specs.Prelude.{ℕ, List, [], ◌∷◌, false, Option, Some, None, ◌&&◌, if◌then◌else◌, ◌==◌, nat_lt, ◌+◌, ◌*◌, ◌/◌, ◌%◌, ◌^◌, length}
use Rattle.std.specs.List.{list_all, flat_map}
use Rattle.std.specs.Char.{digit_value, is_ascii_digit, is_ascii_hexdigit}
use Rattle.std.specs.Fmt.{decimal, digit_glyph}
use Rattle.std.specs.Str.Parse.{digits_value}

-- the value of a text of decimal digits, where it has 32 bits
unfoldable pub number_of : List ℕ → Option ℕ
number_of text = if list_all is_ascii_digit text && nat_lt 0 (length text) && nat_lt (digits_value 10 text) (2 ^ 32)
    then Some (digits_value 10 text)
    else None

-- the shortest decimal text of a number
abbrev pub decimal_of : ℕ → List ℕ
decimal_of n = decimal n

-- the byte of two hexadecimal digits
abbrev pub pair_of : ℕ → ℕ → Option ℕ
pair_of high low = if is_ascii_hexdigit high && is_ascii_hexdigit low then Some (16 * digit_value high + digit_value low) else None

-- the bytes of pairs of digits, the higher digit first
abbrev pub paired : List ℕ → List ℕ
paired [] = []
paired (high ∷ []) = []
paired (high ∷ low ∷ digits) = (16 * digit_value high + digit_value low) ∷ paired digits

-- the bytes of a text of pairs of hexadecimal digits, of either case
unfoldable pub unhexed : List ℕ → Option (List ℕ)
unhexed text = if (length text % 2 == 0) && list_all is_ascii_hexdigit text then Some (paired text) else None

-- the two hexadecimal digits of a byte, in lower case
abbrev pub hex_pair_of : ℕ → List ℕ
hex_pair_of byte = digit_glyph false (byte / 16) ∷ digit_glyph false (byte % 16) ∷ []

-- two hexadecimal digits for each byte
abbrev pub hex_of : List ℕ → List ℕ
hex_of bytes = flat_map hex_pair_of bytes
