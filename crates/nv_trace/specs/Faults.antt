-- Why bytes are no trace: the first fault that is met.
use Rattle.std.specs.Prelude.{◌≡◌, ℕ, zero, suc, ◌+◌, ◌==◌, ◌&&◌, ◌||◌, not, nat_lt, nat_le, Bool, List, length, take, drop, codes, Option, Some, None, if◌then◌else◌}
use Rattle.std.specs.Option.{option_or}
use Rattle.std.specs.Str.{bytes_eq}
use Rattle.nv_calls.specs.Calls.{Entry}
use Rattle.nv_calls.specs.Limits.{MOST_BYTES}
use Rattle.nv_trace.specs.Limits.{MOST_TRACED}
use Rattle.nv_trace.specs.declared.fault.TraceFault.{TraceFault}
use Rattle.nv_trace.specs.declared.fault.TraceFault.TheVariants.{Magic, Count, Short, Field, Extra}
use Rattle.nv_trace.specs.Trace.{IsTrace}
use Rattle.nv_trace.specs.Held.{count_in, bad_in, sent_in, came_in, size_in}

-- twelve bytes, of which eight are those that a trace begins with
abbrev pub has_head : List ℕ → Bool
has_head bytes = nat_le 12 (length bytes) && bytes_eq (codes "VARANTR1") (take 8 bytes)

unfoldable pub head_fault : List ℕ → Option TraceFault
head_fault bytes = if not (has_head bytes) then Some Magic
    else (if nat_lt MOST_TRACED (count_in bytes) then Some Count
    else None)

-- of the event in front, at this place of the log
unfoldable pub event_fault : ℕ → List ℕ → Option TraceFault
event_fault place bytes = if nat_lt (length bytes) 48 then Some (Short place)
    else (if nat_lt 1 (bad_in bytes) || nat_lt MOST_BYTES (sent_in bytes + came_in bytes) then Some (Field place)
    else (if nat_lt (length bytes) (size_in bytes) then Some (Short place)
    else None))

-- of so many events from this place on, behind which nothing stands
abbrev pub events_fault : ℕ → ℕ → List ℕ → Option TraceFault
events_fault zero place bytes = if length bytes == 0 then None else Some Extra
events_fault (suc count) place bytes = option_or (event_fault place bytes) (events_fault count (place + 1) (drop (size_in bytes) bytes))

unfoldable pub trace_fault : List ℕ → Option TraceFault
trace_fault bytes = option_or (head_fault bytes) (events_fault (count_in bytes) 0 (drop 12 bytes))

-- this is the first fault of the bytes, which are no log's trace
pub record IsFirstFault (bytes : List ℕ) (fault : TraceFault) : Type 0 where
  pub first : trace_fault bytes ≡ Some fault
  pub no_trace : (log : List Entry) → IsTrace log bytes → ⊥
