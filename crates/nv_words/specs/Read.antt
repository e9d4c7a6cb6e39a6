-- The event that words spell, read field by field.
use Rattle.std.specs.Prelude.{◌≡◌, ℕ, ◌/◌, ◌%◌, ◌==◌, List, [], ◌∷◌, take, drop, slice_index}
use Rattle.std.specs.List.{flat_map}
use Rattle.std.specs.Int.{w32, cast_signed}
use Rattle.byteorder.specs.Endian.{little_bytes}
use Rattle.nv_calls.specs.Calls.{Entry}
use Rattle.nv_calls.specs.Logs.{InRange}
use Rattle.nv_words.specs.Spelling.{low, high, spell}

abbrev pub sent_of : List ℕ → ℕ
sent_of words = high (slice_index words 5) % 65536

abbrev pub came_of : List ℕ → ℕ
came_of words = high (slice_index words 5) / 65536

abbrev pub payload_of : List ℕ → List ℕ
payload_of words = flat_map (little_bytes 8) (drop 6 words)

abbrev pub halves : ℕ → List ℕ → List ℕ
halves word rest = low word ∷ high word ∷ rest

unfoldable pub event_of : List ℕ → Entry
event_of words = record {
  stamp = low (slice_index words 1);
  call = record {
    tid = low (slice_index words 0);
    nr = high (slice_index words 0);
    args = halves (slice_index words 2) (halves (slice_index words 3) (halves (slice_index words 4) []));
    bad = high (slice_index words 1) == 1;
    payload = take (sent_of words) (payload_of words);
  };
  reply = record {
    ret = cast_signed w32 (low (slice_index words 5));
    payload = take (came_of words) (drop (sent_of words) (payload_of words));
  };
}

-- the event is in range and spelt so
pub record IsEventRead (e : Entry) (words : List ℕ) : Type 0 where
  pub spelt : spell e ≡ words
  pub range : InRange e
