-- Calls as the machine makes them, in Linux's convention for RISC-V (syscall(2)): number in a7, arguments in a0 to a5, result in a0.
use Rattle.std.specs.Prelude.{ℕ, ◌+◌, ◌*◌, ◌==◌, min, List, [], ◌∷◌, ◌++◌, length, replicate, Bool, true, false, ℤ, Option, Some, None, option_map, nat_le, slice_set, if◌then◌else◌}
use Rattle.std.specs.Int.{w32, cast_unsigned}
use Rattle.nv_calls.specs.declared.numbers.Syscall.{Syscall}
use Rattle.nv_calls.specs.declared.numbers.Syscall.TheVariants.{Unlinkat, Openat, Write as WriteCall, Readv, Writev, Bind, ClockNanosleep, Pselect6, Ppoll}
use Rattle.nv_calls.specs.declared.numbers.Slot.{Slot}
use Rattle.nv_calls.specs.declared.numbers.Slot.TheVariants.{Value, Address, Unused}
use Rattle.nv_calls.specs.Calls.{Request}
use Rattle.nv_calls.specs.Limits.{MOST_BYTES, MOST_VECTORS, MOST_PATH, MOST_ADDRESS, TIME_BYTES, POLLED_BYTES}
use Rattle.nv_calls.specs.Answers.{polled_count, selected_count, set_bytes, most_out_by, answer_slot}
use Rattle.nv_calls.specs.Numbers.{syscall_of, slots_by}
use Rattle.nv_memory.specs.declared.region.Right.TheVariants.{Read, Write}
use Rattle.nv_memory.specs.Bytes.{bytes_at}
use Rattle.nv_memory.specs.Region.{holds}
use Rattle.nv_memory.specs.Image.{Image}
use Rattle.nv_machine.specs.Registers.{Registers, written}
use Rattle.nv_machine.specs.Guest.{Machine, register, next_address}
use Rattle.nv_guest.specs.declared.calls.Checked.{Checked}
use Rattle.nv_guest.specs.declared.vectors.Part.{Part}
use Rattle.nv_guest.specs.Paths.{path_at}
use Rattle.nv_guest.specs.Vectors.{parts_at, capacity, joined_parts}
use Rattle.nv_guest.specs.Answers.{with_each_byte, targets_at, scattered, with_sets, with_events}

-- argument n, which is in register a0 + n
abbrev pub argument : Machine → ℕ → ℕ
argument m n = register m.regs (10 + n)

-- the number of the call, in a7
abbrev pub call_number : Machine → ℕ
call_number m = register m.regs 17

-- ---- the arguments

-- an argument that is an address or isn't used counts as 0
abbrev pub kept : Slot → ℕ → ℕ
kept Value arg = arg
kept Address arg = 0
kept Unused arg = 0

abbrev pub all_kept : List Slot → List ℕ → List ℕ
all_kept [] args = []
all_kept (slot ∷ slots) [] = []
all_kept (slot ∷ slots) (arg ∷ args) = kept slot arg ∷ all_kept slots args

abbrev pub values : Syscall → Machine → List ℕ
values k m = all_kept (slots_by k) (argument m 0 ∷ argument m 1 ∷ argument m 2 ∷ argument m 3 ∷ argument m 4 ∷ argument m 5 ∷ [])

-- the fourth of readv holds how many bytes its vectors can hold
abbrev pub values_with : Syscall → Machine → ℕ → List ℕ
values_with Readv m capacity = slice_set (values Readv m) 3 capacity
values_with k m capacity = values k m

-- ---- the ranges of memory

-- the part of memory that a call's answer goes to, unless vectors name it: from the address on, as many bytes as the call hands out at most
abbrev pub out_of : Syscall → Machine → Option Part
out_of k m = option_map (λ slot. record { address = argument m slot; size = most_out_by k (values k m) }) (answer_slot k)

-- how many vectors a call has: where there are too many none is read
abbrev pub vector_count : Machine → ℕ
vector_count m = if nat_le (argument m 2) MOST_VECTORS then argument m 2 else 0

-- the first bytes that the second argument names, of as many as the third says and at most so many, where they may be read
abbrev pub first_bytes : ℕ → Machine → Option (List ℕ)
first_bytes most m = if holds m.memory.regions (argument m 1) (min (argument m 2) most) Read
    then Some (bytes_at m.memory.bytes (argument m 1) (min (argument m 2) most)) else None

-- the first bytes of a write
abbrev pub written_bytes : Machine → Option (List ℕ)
written_bytes m = first_bytes MOST_BYTES m

-- the first bytes of a socket's address (bind(2))
abbrev pub address_in : Machine → Option (List ℕ)
address_in m = first_bytes MOST_ADDRESS m

-- the bytes from an address on, where they may be read
abbrev pub readable : Image → ℕ → ℕ → Option (List ℕ)
readable memory at n = if holds memory.regions at n Read then Some (bytes_at memory.bytes at n) else None

-- the time that this argument names; no bytes where none is given
abbrev pub timeout_in : ℕ → Machine → Option (List ℕ)
timeout_in n m = if argument m n == 0 then Some [] else readable m.memory (argument m n) TIME_BYTES

abbrev pub both : Option (List ℕ) → Option (List ℕ) → Option (List ℕ)
both None second = None
both (Some first) None = None
both (Some first) (Some second) = Some (first ++ second)

-- what the descriptors of ppoll are polled for, and after it its time
abbrev pub polled_bytes : Machine → Option (List ℕ)
polled_bytes m = both (readable m.memory (argument m 0) (POLLED_BYTES * polled_count (argument m 1))) (timeout_in 2 m)

-- the bytes of a set of pselect6
abbrev pub set_size : Machine → ℕ
set_size m = set_bytes (selected_count (argument m 0))

-- the set that this argument names, where it may be read and written; zeros where none is given
abbrev pub set_in : ℕ → Machine → Option (List ℕ)
set_in n m = if argument m n == 0 then Some (replicate (set_size m) 0)
    else if holds m.memory.regions (argument m n) (set_size m) Write then readable m.memory (argument m n) (set_size m) else None

-- where the sets of pselect6 are
abbrev pub set_places : Machine → List ℕ
set_places m = argument m 1 ∷ argument m 2 ∷ argument m 3 ∷ []

-- the sets of pselect6, one after another: of those that are asked to be readable, writable and in a special state
abbrev pub sets_in : Machine → Option (List ℕ)
sets_in m = both (both (set_in 1 m) (set_in 2 m)) (set_in 3 m)

-- its sets, and after them its time
abbrev pub selected_bytes : Machine → Option (List ℕ)
selected_bytes m = both (sets_in m) (timeout_in 4 m)

-- the first bytes of a path, or those before its 0
abbrev pub path_in : Machine → Option (List ℕ)
path_in m = path_at MOST_PATH m.memory (argument m 1)

-- the first bytes that vectors name
abbrev pub vectors_in : Machine → Option (List ℕ)
vectors_in m = option_map (joined_parts m.memory) (parts_at m.memory Read (vector_count m) MOST_BYTES (argument m 1))

-- how many bytes vectors can hold, as far as a call moves them
abbrev pub capacity_in : Machine → Option ℕ
capacity_in m = option_map capacity (parts_at m.memory Write (vector_count m) MOST_BYTES (argument m 1))

-- ---- what a call hands over

pub record Handed : Type 0 where
  -- a range isn't the guest's to read or write
  pub bad : Bool
  pub payload : List ℕ
  -- how many bytes the vectors of a readv can hold
  pub capacity : ℕ

-- what was checked, with the payload
abbrev pub handed_as : Checked → List ℕ → Handed
handed_as checked payload = record { bad = checked.bad; payload = payload; capacity = checked.capacity }

abbrev pub refused : Handed
refused = record { bad = true; payload = []; capacity = 0 }

abbrev pub with_payload : Option (List ℕ) → Handed
with_payload None = refused
with_payload (Some bytes) = record { bad = false; payload = bytes; capacity = 0 }

abbrev pub with_capacity : Option ℕ → Handed
with_capacity None = refused
with_capacity (Some capacity) = record { bad = false; payload = []; capacity = capacity }

-- nothing, where the bytes of the answer may be written
abbrev pub with_out : Image → Option Part → Handed
with_out memory None = with_payload (Some [])
with_out memory (Some part) = if holds memory.regions part.address part.size Write then with_payload (Some []) else refused

-- what is polled is read, and what is told of it written beside it
abbrev pub polled_in : Machine → Handed
polled_in m = if holds m.memory.regions (argument m 0) (POLLED_BYTES * polled_count (argument m 1)) Write then with_payload (polled_bytes m) else refused

abbrev pub handed : Syscall → Machine → Handed
handed Unlinkat m = with_payload (path_in m)
handed Openat m = with_payload (path_in m)
handed WriteCall m = with_payload (written_bytes m)
handed Bind m = with_payload (address_in m)
handed Writev m = with_payload (vectors_in m)
handed Readv m = with_capacity (capacity_in m)
handed ClockNanosleep m = with_payload (readable m.memory (argument m 2) TIME_BYTES)
handed Pselect6 m = with_payload (selected_bytes m)
handed Ppoll m = polled_in m
handed k m = with_out m.memory (out_of k m)

abbrev pub call_by : Syscall → Machine → ℕ → Handed → Request
call_by k m tid h = record { tid = tid; nr = call_number m; args = values_with k m h.capacity; bad = h.bad; payload = h.payload }

-- the call that the machine asks for
unfoldable pub call_at : Machine → ℕ → Request
call_at m tid = call_by (syscall_of (call_number m)) m tid (handed (syscall_of (call_number m)) m)

-- ---- the answer

-- the bytes of an answer from an address on; the kernel hands out no more than its place has, so none falls past it
abbrev pub stored_at : Image → Option Part → List ℕ → Image
stored_at memory None bytes = memory
stored_at memory (Some part) bytes = with_each_byte memory part.address bytes

-- the memory with the bytes of an answer, as far as they may be written; a call without a place for them stores none
abbrev pub memory_after : Syscall → Machine → List ℕ → Image
memory_after Readv m bytes = scattered m.memory (targets_at m.memory (vector_count m) (length bytes) (argument m 1)) bytes
memory_after Pselect6 m bytes = with_sets m.memory (set_size m) (set_places m) bytes
memory_after Ppoll m bytes = with_events m.memory (argument m 0) (polled_count (argument m 1)) bytes
memory_after k m bytes = stored_at m.memory (out_of k m) bytes

-- the registers with the result in a0, past the call
abbrev pub past_call : Registers → ℕ → Registers
past_call regs value = record regs { x = written regs.x 10 value; pc = next_address regs }

-- the machine with this result and these bytes as the answer
unfoldable pub with_answer : Machine → ℤ → List ℕ → Machine
with_answer m ret bytes = record { regs = past_call m.regs (cast_unsigned w32 ret); memory = memory_after (syscall_of (call_number m)) m bytes }
