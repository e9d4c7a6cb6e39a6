-- How many bytes a call hands out at most, and where they go.
use Rattle.std.specs.Prelude.{ℕ, ◌+◌, ◌*◌, ◌/◌, ◌^◌, min, nat_le, nat_lt, List, slice_index, Option, Some, None, if◌then◌else◌}
use Rattle.nv_calls.specs.declared.numbers.Syscall.{Syscall}
use Rattle.nv_calls.specs.declared.numbers.Syscall.TheVariants.{Getcwd, Pipe2, Llseek, Read, Readv, Uname, Getrandom, ClockGettime64, Pselect6, Ppoll}
use Rattle.nv_calls.specs.Limits.{MOST_BYTES, MOST_POLLED, MOST_SELECTED, EVENTS_BYTES}

-- how many descriptors a call polls that says so many; of too many none
abbrev pub polled_count : ℕ → ℕ
polled_count count = if nat_le count MOST_POLLED then count else 0

-- how many descriptors a call selects among that says so many, as a signed number; of a negative number none (select(2))
abbrev pub selected_count : ℕ → ℕ
selected_count count = if nat_lt count (2 ^ 31) then min count MOST_SELECTED else 0

-- the bytes of a set of so many descriptors: a bit for each, in words of 32 bits
abbrev pub set_bytes : ℕ → ℕ
set_bytes count = (count + 31) / 32 * 4

-- the bytes of the three sets of pselect6: of those that are readable, writable and in a special state
abbrev pub sets_bytes : List ℕ → ℕ
sets_bytes args = 3 * set_bytes (selected_count (slice_index args 0))

-- How many bytes a call with these arguments hands out at most, by its man page. The path `/` of getcwd has 2, and the fourth argument of
-- readv is the capacity of its vectors.
abbrev pub most_out_by : Syscall → List ℕ → ℕ
most_out_by Getcwd args = min (slice_index args 1) 2
most_out_by Pipe2 args = 8
most_out_by Llseek args = 8
most_out_by Read args = min (slice_index args 2) MOST_BYTES
most_out_by Readv args = min (slice_index args 3) MOST_BYTES
most_out_by Uname args = 390
most_out_by Getrandom args = min (slice_index args 1) MOST_BYTES
most_out_by ClockGettime64 args = 16
most_out_by Pselect6 args = sets_bytes args
most_out_by Ppoll args = EVENTS_BYTES * polled_count (slice_index args 1)
most_out_by _ args = 0

-- the argument that is the address of the place of the answer's bytes, unless vectors, the sets of pselect6 or the list of ppoll name it
abbrev pub answer_slot : Syscall → Option ℕ
answer_slot Getcwd = Some 0
answer_slot Pipe2 = Some 0
answer_slot Llseek = Some 3
answer_slot Read = Some 1
answer_slot Uname = Some 0
answer_slot Getrandom = Some 0
answer_slot ClockGettime64 = Some 1
answer_slot _ = None
