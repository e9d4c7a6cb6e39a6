-- An event as a list of words of 64 bits.
use Rattle.std.specs.Prelude.{◌≡◌, ℕ, ◌+◌, ◌*◌, ◌/◌, ◌%◌, ◌≤◌, Bool, true, false, List, ◌∷◌, ◌++◌, map, length, slice_index}
use Rattle.std.specs.List.{range_with_len}
use Rattle.std.specs.Int.{w32, cast_unsigned}
use Rattle.byteorder.specs.Endian.{little_from}
use Rattle.nv_calls.specs.Calls.{Entry}
use Rattle.nv_calls.specs.Limits.{MOST_BYTES}

-- two numbers of 32 bits in a word, the first in the low half
abbrev pub pair : ℕ → ℕ → ℕ
pair first second = first + 4294967296 * second

abbrev pub low : ℕ → ℕ
low word = word % 4294967296

abbrev pub high : ℕ → ℕ
high word = word / 4294967296

abbrev pub flag_bit : Bool → ℕ
flag_bit false = 0
flag_bit true = 1

-- eight bytes a word, the first in the lowest place; the last word is filled up with 0
unfoldable pub packed : List ℕ → List ℕ
packed bytes = map (λ i. little_from (8 * i) 8 bytes) (range_with_len 0 ((length bytes + 7) / 8))

abbrev pub event_arg : Entry → ℕ → ℕ
event_arg e i = slice_index e.call.args i

unfoldable pub spell : Entry → List ℕ
spell e = pair e.call.tid e.call.nr ∷ pair e.stamp (flag_bit e.call.bad) ∷ pair (event_arg e 0) (event_arg e 1) ∷ pair (event_arg e 2) (event_arg e 3) ∷ pair (event_arg e 4) (event_arg e 5)
    ∷ pair (cast_unsigned w32 e.reply.ret) (length e.call.payload + 65536 * length e.reply.payload) ∷ packed (e.call.payload ++ e.reply.payload)

abbrev pub FitsPayload : Entry → Type 0
FitsPayload e = length e.call.payload + length e.reply.payload ≤ MOST_BYTES

-- the payload's words, by the lengths in word 5
unfoldable pub payload_words : ℕ → ℕ
payload_words word = (high word % 65536 + high word / 65536 + 7) / 8

-- as many words as word 5 says
abbrev pub IsWhole : List ℕ → Type 0
IsWhole words = (6 ≤ length words) × (length words ≡ 6 + payload_words (slice_index words 5))
