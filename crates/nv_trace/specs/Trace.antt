-- The bytes of a recorded log.
use Rattle.std.specs.Prelude.{◌≡◌, ℕ, ◌+◌, ◌≤◌, Bool, true, false, List, [], ◌∷◌, ◌++◌, length, codes, slice_index}
use Rattle.std.specs.List.{flat_map}
use Rattle.std.specs.Int.{w32, cast_unsigned}
use Rattle.byteorder.specs.Endian.{little_bytes}
use Rattle.nv_calls.specs.Calls.{Entry}
use Rattle.nv_trace.specs.Limits.{MOST_TRACED}
use Rattle.nv_calls.specs.Logs.{InRange}

-- each number in four bytes, the lowest first
unfoldable pub number_bytes : List ℕ → List ℕ
number_bytes ns = flat_map (little_bytes 4) ns

abbrev pub bit : Bool → ℕ
bit false = 0
bit true = 1

abbrev pub arg : Entry → ℕ → ℕ
arg e i = slice_index e.call.args i

-- The twelve fields of an event: thread, number, arguments, whether it is bad, the result, and how many bytes its call and its reply hand over. Its stamp
-- is its place.
abbrev pub fields_of : Entry → List ℕ
fields_of e =
    e.call.tid ∷ e.call.nr ∷ arg e 0 ∷ arg e 1 ∷ arg e 2 ∷ arg e 3 ∷ arg e 4 ∷ arg e 5 ∷ bit e.call.bad ∷ cast_unsigned w32 e.reply.ret
    ∷ length e.call.payload ∷ length e.reply.payload ∷ []

-- the fields, and then the bytes of the call and of the reply
unfoldable pub event_bytes : Entry → List ℕ
event_bytes e = number_bytes (fields_of e) ++ (e.call.payload ++ e.reply.payload)

-- what a trace begins with, and how many events it has
unfoldable pub head_bytes : ℕ → List ℕ
head_bytes count = codes "VARANTR1" ++ number_bytes (count ∷ [])

-- the trace of a log
unfoldable pub trace_of : List Entry → List ℕ
trace_of log = head_bytes (length log) ++ flat_map event_bytes log

-- each event has its place as its stamp, from this one on, and its numbers are in their ranges
abbrev pub AreRecordable : ℕ → List Entry → Type 0
AreRecordable place [] = Unit {0}
AreRecordable place (e ∷ es) = (e.stamp ≡ place) × InRange e × AreRecordable (place + 1) es

-- a log that has a trace: at most 131,072 events, each with at most 4,096 bytes
pub record IsRecordable (log : List Entry) : Type 0 where
  pub few : length log ≤ MOST_TRACED
  pub each : AreRecordable 0 log

-- the bytes are the trace of the log
pub record IsTrace (log : List Entry) (bytes : List ℕ) : Type 0 where
  pub recordable : IsRecordable log
  pub same : bytes ≡ trace_of log

-- the bytes are the trace of this log, and of no other
pub record IsRead (log : List Entry) (bytes : List ℕ) : Type 0 where
  pub trace : IsTrace log bytes
  pub alone : (other : List Entry) → IsTrace other bytes → other ≡ log

-- no trace begins another: what goes on behind a trace and is a trace is nothing, and of the same log
abbrev pub IsPrefixFree : Type 0
IsPrefixFree = (log other : List Entry) (rest : List ℕ) → IsRecordable log → IsRecordable other → trace_of other ≡ trace_of log ++ rest → (rest ≡ []) × (other ≡ log)
