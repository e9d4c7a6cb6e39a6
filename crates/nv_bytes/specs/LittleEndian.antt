-- Little-endian fields in a list of bytes.
use Rattle.std.specs.Prelude.{ℕ, List, ◌++◌, ◌+◌, take, drop}
use Rattle.byteorder.specs.Endian.{little_number, little_bytes}

-- the number in the n bytes from a place, the lowest byte first
unfoldable pub field_at : ℕ → List ℕ → ℕ → ℕ
field_at n bytes place = little_number n (drop place bytes)

-- the list with a number in the n bytes from a place, and with all else as it was
unfoldable pub with_field : ℕ → List ℕ → ℕ → ℕ → List ℕ
with_field n bytes place value = take place bytes ++ (little_bytes n value ++ drop (place + n) bytes)
