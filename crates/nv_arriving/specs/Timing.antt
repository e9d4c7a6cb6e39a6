-- When a wait is over (ppoll(2), select(2), clock_nanosleep(2)).
use Rattle.std.specs.Prelude.{ℕ, ◌+◌, ◌*◌, ◌/◌, ◌%◌, ◌^◌, ℤ, pos, Bool, false, ◌&&◌, ◌||◌, ◌==◌, nat_lt, nat_le, List, [], ◌∷◌, length, drop, Option, Some, None, slice_index, if◌then◌else◌}
use Rattle.std.specs.Int.{from_le_bytes, w32}
use Rattle.nv_calls.specs.declared.numbers.Syscall.{Syscall}
use Rattle.nv_calls.specs.declared.numbers.Syscall.TheVariants as call
use Rattle.nv_calls.specs.Answers.{polled_count, sets_bytes}
use Rattle.nv_calls.specs.Calls.{Request}
use Rattle.nv_calls.specs.Errors.{EINVAL}
use Rattle.nv_calls.specs.Limits.{POLLED_BYTES, TIME_BYTES}
use Rattle.nv_calls.specs.Numbers.{syscall_of}
use Rattle.nv_kernel.specs.Serving.{request_arg, second, time_of, reached}
use Rattle.nv_arriving.specs.declared.timing.Until.{Until}
use Rattle.nv_arriving.specs.declared.timing.Until.TheVariants as until
use Rattle.nv_arriving.specs.declared.waiting.Want.{Want}
use Rattle.nv_arriving.specs.declared.waiting.Want.TheVariants as want
use Rattle.nv_arriving.specs.Standings.{Standing}

-- ---- the time of a call: 16 bytes, seconds in the first 8 and nanoseconds in the next 4, as Linux of 32 bits reads it

abbrev pub word : List ℕ → ℕ → ℕ
word bytes at = from_le_bytes w32 (slice_index bytes at ∷ slice_index bytes (at + 1) ∷ slice_index bytes (at + 2) ∷ slice_index bytes (at + 3) ∷ [])

-- in nanoseconds; None where a number is below 0, or there are a second's nanoseconds or more
unfoldable pub time_in : List ℕ → Option ℕ
time_in bytes = if nat_lt (word bytes 4) (2 ^ 31) && nat_le (word bytes 8) 999999999
    then Some ((word bytes 4 * 2 ^ 32 + word bytes 0) * second + word bytes 8) else None

-- what a call shows of the clock, in nanoseconds
abbrev pub now : Standing → ℕ
now s = time_of s.state.own

-- a time in nanoseconds; the last that can be told, where it is later
unfoldable pub at : ℕ → Until
at nanos = if nat_lt (nanos / second) (2 ^ 32) then until.At (nanos / second) (nanos % second) else until.At 4294967295 999999999

abbrev pub after_time : ℕ → Option ℕ → Until
after_time base None = until.Bad
after_time base (Some nanos) = at (base + nanos)

abbrev pub after : ℕ → List ℕ → Until
after base bytes = after_time base (time_in bytes)

-- ---- when the wait of a call is over

-- a time stands behind so many bytes, where one is given
abbrev pub poll_until : Standing → List ℕ → ℕ → Until
poll_until s bytes n = if length bytes == n + TIME_BYTES then after (now s) (drop n bytes) else until.Never

-- 0 is CLOCK_REALTIME and 1 CLOCK_MONOTONIC
abbrev pub is_clock : ℕ → Bool
is_clock id = nat_le id 1

-- a time counts from now, or, with TIMER_ABSTIME (1), from the clock's beginning
abbrev pub base : Standing → ℕ → ℕ
base s flags = if flags % 2 == 1 then 0 else now s

abbrev pub sleep_until : Standing → Request → Until
sleep_until s c = if is_clock (request_arg c 0) && (length c.payload == TIME_BYTES) then after (base s (request_arg c 1)) c.payload else until.Bad

abbrev pub until_as : Syscall → Standing → Request → Until
until_as call.Ppoll s c = poll_until s c.payload (POLLED_BYTES * polled_count (request_arg c 1))
until_as call.Pselect6 s c = poll_until s c.payload (sets_bytes c.args)
until_as call.ClockNanosleep s c = sleep_until s c
until_as _ s c = until.Never

unfoldable pub until_of : Standing → Request → Until
until_of s c = until_as (syscall_of c.nr) s c

-- it is so late
unfoldable pub is_past : Standing → ℕ → ℕ → Bool
is_past s seconds nanos = nat_le (seconds * second + nanos) (now s)

-- the first time is at or past the second
abbrev pub reaches : ℕ → ℕ → ℕ → ℕ → Bool
reaches seconds nanos other more = nat_lt other seconds || ((seconds == other) && nat_le more nanos)

-- this time ends the wait
abbrev pub is_reached : Until → ℕ → ℕ → Bool
is_reached until.Never seconds nanos = false
is_reached until.Bad seconds nanos = false
is_reached (until.At other more) seconds nanos = reaches seconds nanos other more

-- ---- clock_nanosleep(2)

-- it waits for that time
abbrev pub sleep_wants : Standing → Until → Option Want
sleep_wants s until.Never = None
sleep_wants s until.Bad = None
sleep_wants s (until.At seconds nanos) = if is_past s seconds nanos then None else Some (want.Time seconds nanos)

-- it is at least so late
abbrev pub with_time : Standing → ℕ → Standing
with_time s nanos = record s { state = record s.state { own = reached s.state.own nanos } }

-- the time goes by, whatever comes
abbrev pub slept : Standing → Until → ℤ × Standing
slept s until.Never = (EINVAL, s)
slept s until.Bad = (EINVAL, s)
slept s (until.At seconds nanos) = (pos 0, with_time s (seconds * second + nanos))
