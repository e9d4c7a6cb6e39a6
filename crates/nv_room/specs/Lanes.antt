-- In which of eight lanes an event stands, by its thread.
use Rattle.std.specs.Prelude.{ℕ, ℤ, ◌+◌, ◌-◌, ◌==◌, ◌||◌, Bool, false, List, [], ◌∷◌, take, replicate, count_by, Option, Some, None, is_some, is_none, unwrap_or, slice_index, slice_index_or, slice_set, if◌then◌else◌}
use Rattle.std.specs.List.{position_from}
use Rattle.nv_calls.specs.Calls.{Entry}
use Rattle.nv_calls.specs.Limits.{FIRST_THREAD, MOST_THREADS}
use Rattle.nv_calls.specs.Logs.{made}
use Rattle.nv_calls.specs.Numbers.{EXIT}

abbrev pub Holders : Type 0
Holders = List (Option ℕ)

-- the thread that has each lane, if one has, and how many events stand in it
pub record Taken : Type 0 where
  pub holders : Holders
  pub counts : List ℕ

abbrev pub is_of : ℕ → Option ℕ → Bool
is_of tid None = false
is_of tid (Some t) = t == tid

-- the thread's lane, if it has one
unfoldable pub lane_of : Holders → ℕ → Option ℕ
lane_of holders tid = position_from (is_of tid) 0 holders

-- the least lane that no thread has
unfoldable pub free_lane : Holders → Option ℕ
free_lane holders = position_from is_none 0 holders

-- where the next event of the thread stands: in lane 0 where the thread has none
abbrev pub lane_in : Holders → ℕ → ℕ
lane_in holders tid = unwrap_or (lane_of holders tid) 0

abbrev pub with_holder : Holders → Option ℕ → Option ℕ → Holders
with_holder holders None holder = holders
with_holder holders (Some lane) holder = slice_set holders lane holder

-- a new thread has the least free lane, unless it has one already
abbrev pub with_child_lane : Holders → Option ℕ → Holders
with_child_lane holders None = holders
with_child_lane holders (Some child) = if is_some (lane_of holders child) then holders else with_holder holders (free_lane holders) (Some child)

-- exit frees the lane of its thread
unfoldable pub holders_by : Holders → ℕ → ℕ → ℤ → Holders
holders_by holders tid nr ret =
    if nr == EXIT then with_holder holders (lane_of holders tid) None
    else with_child_lane holders (made nr ret)

abbrev pub one_counted : List ℕ → ℕ → List ℕ
one_counted counts lane = slice_set counts lane (slice_index counts lane + 1)

-- after a call of this thread and number, with this result
unfoldable pub noted_by : Taken → ℕ → ℕ → ℤ → Taken
noted_by s tid nr ret = record { holders = holders_by s.holders tid nr ret; counts = one_counted s.counts (lane_in s.holders tid) }

abbrev pub holders_next : Holders → Entry → Holders
holders_next holders e = holders_by holders e.call.tid e.call.nr e.reply.ret

abbrev pub noted : Taken → Entry → Taken
noted s e = noted_by s e.call.tid e.call.nr e.reply.ret

-- the first thread has lane 0
unfoldable pub start : Taken
start = record { holders = Some FIRST_THREAD ∷ replicate (MOST_THREADS - 1) None; counts = replicate MOST_THREADS 0 }

-- lane 0 always lives
abbrev pub lives : Taken → ℕ → Bool
lives s lane = (lane == 0) || is_some (slice_index_or s.holders lane None)

-- after a log
abbrev pub taken_from : Taken → List Entry → Taken
taken_from s [] = s
taken_from s (e ∷ es) = taken_from (noted s e) es

abbrev pub taken_after : List Entry → Taken
taken_after log = taken_from start log

-- the lane of each event of a log
abbrev pub lanes_from : Holders → List Entry → List ℕ
lanes_from holders [] = []
lanes_from holders (e ∷ es) = lane_in holders e.call.tid ∷ lanes_from (holders_next holders e) es

abbrev pub lanes_of : List Entry → List ℕ
lanes_of log = lanes_from start.holders log

-- how many of these lanes are this one
abbrev pub events_in : ℕ → List ℕ → ℕ
events_in lane lanes = count_by (λ l. l == lane) lanes

-- the lane of the event i, and how many earlier events stand there
abbrev pub lane_at : List Entry → ℕ → ℕ
lane_at log i = slice_index (lanes_of log) i

abbrev pub earlier_at : List Entry → ℕ → ℕ
earlier_at log i = events_in (lane_at log i) (take i (lanes_of log))
