-- The form of a call that a guest can make.
use Rattle.std.specs.Prelude.{◌≡◌, ℕ, ◌+◌, ◌*◌, Bool, true, ◌==◌, ◌&&◌, ◌||◌, not, nat_le, List, [], ◌∷◌, length, slice_index, min, if◌then◌else◌}
use Rattle.std.specs.List.{list_all}
use Rattle.nv_calls.specs.declared.numbers.Syscall.{Syscall}
use Rattle.nv_calls.specs.declared.numbers.Syscall.TheVariants.{Unlinkat, Openat, Write, Readv, Writev, Bind, ClockNanosleep, Pselect6, Ppoll}
use Rattle.nv_calls.specs.declared.numbers.Slot.{Slot}
use Rattle.nv_calls.specs.declared.numbers.Slot.TheVariants.{Value, Address, Unused}
use Rattle.nv_calls.specs.Calls.{Request}
use Rattle.nv_calls.specs.Answers.{polled_count, sets_bytes}
use Rattle.nv_calls.specs.Limits.{MOST_BYTES, MOST_VECTORS, MOST_PATH, MOST_ADDRESS, TIME_BYTES, POLLED_BYTES}
use Rattle.nv_calls.specs.Numbers.{syscall_of, slots_by, has_range, is_local}

-- an argument that is no value is 0
abbrev pub is_plain : Slot → ℕ → Bool
is_plain Value arg = true
is_plain Address arg = arg == 0
is_plain Unused arg = arg == 0

abbrev pub are_plain : List Slot → List ℕ → Bool
are_plain [] args = true
are_plain (slot ∷ slots) [] = true
are_plain (slot ∷ slots) (arg ∷ args) = is_plain slot arg && are_plain slots args

-- the fourth argument of readv holds how many bytes its vectors can hold
abbrev pub kept_slots : Syscall → List Slot
kept_slots Readv = Value ∷ Address ∷ Value ∷ Value ∷ Unused ∷ Unused ∷ []
kept_slots syscall = slots_by syscall

-- so many bytes may vectors have together: none where there are too many
abbrev pub most_of_vectors : Request → ℕ
most_of_vectors c = if c.bad then 0 else (if nat_le (slice_index c.args 2) MOST_VECTORS then MOST_BYTES else 0)

abbrev pub is_capacity : Syscall → Request → Bool
is_capacity Readv c = nat_le (slice_index c.args 3) (most_of_vectors c)
is_capacity _ c = true

-- the first bytes of a path, none of them 0
abbrev pub is_path : List ℕ → Bool
is_path bytes = nat_le (length bytes) MOST_PATH && list_all (λ b. not (b == 0)) bytes

-- so many bytes, and after them a time, where one is given
abbrev pub is_timed : ℕ → List ℕ → Bool
is_timed n bytes = (length bytes == n) || (length bytes == n + TIME_BYTES)

-- the bytes that a call on the guest's own memory hands in
abbrev pub is_payload : Syscall → Request → Bool
is_payload Unlinkat c = is_path c.payload
is_payload Openat c = is_path c.payload
is_payload Write c = length c.payload == min (slice_index c.args 2) MOST_BYTES
is_payload Writev c = nat_le (length c.payload) (most_of_vectors c)
is_payload Bind c = length c.payload == min (slice_index c.args 2) MOST_ADDRESS
is_payload ClockNanosleep c = is_timed 0 c.payload
is_payload Pselect6 c = is_timed (sets_bytes c.args) c.payload
is_payload Ppoll c = is_timed (POLLED_BYTES * polled_count (slice_index c.args 1)) c.payload
is_payload _ c = length c.payload == 0

abbrev pub is_shaped_as : Syscall → Request → Bool
is_shaped_as syscall c = are_plain (kept_slots syscall) c.args && ((not c.bad || has_range syscall)
    && (is_capacity syscall c && (if c.bad then length c.payload == 0 else is_payload syscall c)))

unfoldable pub is_shaped : Request → Bool
is_shaped c = not (is_local c.nr) && is_shaped_as (syscall_of c.nr) c

-- a call that a guest can make and that is logged
abbrev pub IsShaped : Request → Type 0
IsShaped c = is_shaped c ≡ true
