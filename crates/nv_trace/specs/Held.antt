-- The events that bytes hold, field by field.
use Rattle.std.specs.Prelude.{ℕ, zero, suc, ◌+◌, ◌==◌, List, [], ◌∷◌, take, drop}
use Rattle.std.specs.Int.{w32, cast_signed}
use Rattle.nv_bytes.specs.LittleEndian.{field_at}
use Rattle.nv_calls.specs.Calls.{Request, Response, Entry}

-- how many events the head tells
abbrev pub count_in : List ℕ → ℕ
count_in bytes = field_at 4 bytes 8

-- whether the event in front is bad, as its field tells
abbrev pub bad_in : List ℕ → ℕ
bad_in bytes = field_at 4 bytes 32

-- how many bytes the event in front hands in and out
abbrev pub sent_in : List ℕ → ℕ
sent_in bytes = field_at 4 bytes 40

abbrev pub came_in : List ℕ → ℕ
came_in bytes = field_at 4 bytes 44

-- how many bytes the event in front has
abbrev pub size_in : List ℕ → ℕ
size_in bytes = 48 + (sent_in bytes + came_in bytes)

unfoldable pub request_in : List ℕ → Request
request_in bytes = record {
  tid = field_at 4 bytes 0;
  nr = field_at 4 bytes 4;
  args =
      field_at 4 bytes 8 ∷ field_at 4 bytes 12 ∷ field_at 4 bytes 16 ∷ field_at 4 bytes 20 ∷ field_at 4 bytes 24 ∷ field_at 4 bytes 28
      ∷ [];
  bad = bad_in bytes == 1;
  payload = take (sent_in bytes) (drop 48 bytes);
}

unfoldable pub response_in : List ℕ → Response
response_in bytes = record {
  ret = cast_signed w32 (field_at 4 bytes 36);
  payload = take (came_in bytes) (drop (48 + sent_in bytes) bytes);
}

-- the event in front, at this place of the log
abbrev pub entry_in : ℕ → List ℕ → Entry
entry_in place bytes = record { stamp = place; call = request_in bytes; reply = response_in bytes }

-- so many events from this place on
abbrev pub entries_in : ℕ → ℕ → List ℕ → List Entry
entries_in zero place bytes = []
entries_in (suc count) place bytes = entry_in place bytes ∷ entries_in count (place + 1) (drop (size_in bytes) bytes)

-- all events of a trace
unfoldable pub log_in : List ℕ → List Entry
log_in bytes = entries_in (count_in bytes) 0 (drop 12 bytes)
