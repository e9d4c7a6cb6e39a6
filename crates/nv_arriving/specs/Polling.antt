-- ppoll(2) and select(2): which of the descriptors that a call looks at are ready, what it waits for where none is, and what it answers.
use Rattle.std.specs.Prelude.{ℕ, zero, suc, ◌+◌, ◌*◌, ◌/◌, ◌^◌, min, ℤ, pos, Bool, true, false, not, ◌&&◌, ◌||◌, ◌==◌, nat_lt, nat_le, bit_and, bit_or, List, [], ◌∷◌, ◌++◌, length, map, Option, Some, None, is_some, is_none, slice_index, if◌then◌else◌}
use Rattle.std.specs.Int.{from_le_bytes, to_le_bytes, w16, w32}
use Rattle.std.specs.List.{list_any, range_with_len, filter}
use Rattle.nv_calls.specs.declared.numbers.Syscall.{Syscall}
use Rattle.nv_calls.specs.declared.numbers.Syscall.TheVariants as call
use Rattle.nv_calls.specs.Answers.{polled_count, sets_bytes}
use Rattle.nv_calls.specs.Calls.{Request}
use Rattle.nv_calls.specs.Errors.{EBADF, EINTR, EINVAL}
use Rattle.nv_calls.specs.Limits.{MOST_POLLED}
use Rattle.nv_calls.specs.Numbers.{syscall_of}
use Rattle.nv_fs.specs.Polls.{READABLE, WRITABLE, FAILED, HUNG, when, file_events}
use Rattle.nv_fs.specs.States.{open_of}
use Rattle.nv_fs.specs.Waits.{reads_input}
use Rattle.nv_kernel.specs.Serving.{request_arg}
use Rattle.nv_sockets.specs.declared.socket.Socket.{Socket}
use Rattle.nv_sockets.specs.declared.socket.Socket.TheVariants.{Fresh, Bound, Listening, Connected}
use Rattle.nv_sockets.specs.Sockets.{socket_at, next_at, has_unread}
use Rattle.nv_script.specs.Arrivals.{Arrival, Input, InputEnd, ClientsEnd, Connect, Data, End, Time}
use Rattle.nv_arriving.specs.declared.polled.Polled.{Polled}
use Rattle.nv_arriving.specs.declared.timing.Until.{Until}
use Rattle.nv_arriving.specs.declared.timing.Until.TheVariants as until
use Rattle.nv_arriving.specs.declared.waiting.Want.{Want}
use Rattle.nv_arriving.specs.declared.waiting.Want.TheVariants as want
use Rattle.nv_arriving.specs.Selecting.{selected_at}
use Rattle.nv_arriving.specs.Standings.{Standing, is_over}
use Rattle.nv_arriving.specs.Timing.{is_past, is_reached}

-- ---- the list of ppoll: 8 bytes for each descriptor (poll(2))

-- its number in 4 of them, and what it is polled for in 2; POLLERR and POLLHUP are told unasked
unfoldable pub polled_at : List ℕ → ℕ → Polled
polled_at bytes place = record {
  fd = from_le_bytes w32 (slice_index bytes (place * 8) ∷ slice_index bytes (place * 8 + 1) ∷ slice_index bytes (place * 8 + 2) ∷ slice_index bytes (place * 8 + 3) ∷ []);
  events = bit_or (from_le_bytes w16 (slice_index bytes (place * 8 + 4) ∷ slice_index bytes (place * 8 + 5) ∷ [])) (FAILED + HUNG);
}

-- ---- what a call looks at: a descriptor in each place of its list, or of its sets

abbrev pub looked_as : Syscall → Request → ℕ → Polled
looked_as call.Pselect6 c place = selected_at c place
looked_as _ c place = polled_at c.payload place

abbrev pub looked_at : Request → ℕ → Polled
looked_at c place = looked_as (syscall_of c.nr) c place

-- as many as ppoll says and its list has
abbrev pub listed_count : Request → ℕ
listed_count c = min (polled_count (request_arg c 1)) (length c.payload / 8)

-- of select the bits of its three sets
abbrev pub count_as : Syscall → Request → ℕ
count_as call.Pselect6 c = 8 * sets_bytes c.args
count_as _ c = listed_count c

abbrev pub places : Request → List ℕ
places c = range_with_len 0 (count_as (syscall_of c.nr) c)

-- a number below 0 is passed over
abbrev pub is_passed : Polled → Bool
is_passed p = nat_le (2 ^ 31) p.fd

abbrev pub asks : Polled → ℕ → Bool
asks p events = not (bit_and p.events events == 0)

-- ---- what may be told of a descriptor

-- POLLRDHUP: the client has sent all
abbrev pub SENT_ALL : ℕ
SENT_ALL = 0x2000

-- POLLNVAL: the descriptor isn't open
abbrev pub NOT_OPEN : ℕ
NOT_OPEN = 0x20

-- a write to a connection never waits; a read doesn't where some is left, or the client has sent all
abbrev pub connected_events : Standing → ℕ → ℕ
connected_events s i =
    WRITABLE + (when (is_over s i || has_unread s.state.net i) READABLE + when (is_over s i) SENT_ALL)

abbrev pub socket_events : Standing → Socket → ℕ
socket_events s Fresh = WRITABLE + HUNG
socket_events s (Bound port) = WRITABLE + HUNG
socket_events s (Listening port) = when (is_some (next_at s.state.net port)) READABLE
socket_events s (Connected i) = connected_events s i

abbrev pub events_by : Standing → ℕ → Option Socket → Option ℕ
events_by s fd None = file_events s.state.own.files s.input_over fd
events_by s fd (Some socket) = Some (socket_events s socket)

-- None where it isn't open
unfoldable pub events : Standing → ℕ → Option ℕ
events s fd = events_by s fd (socket_at s.state.net fd)

-- those of the events that it is looked at for
abbrev pub told : Polled → Option ℕ → ℕ
told p None = NOT_OPEN
told p (Some all) = bit_and all p.events

abbrev pub told_of : Standing → Polled → ℕ
told_of s p = if is_passed p then 0 else told p (events s p.fd)

-- something is told of the descriptor in this place
abbrev pub is_ready : Standing → Request → ℕ → Bool
is_ready s c place = not (told_of s (looked_at c place) == 0)

-- in how many of these places
abbrev pub ready_in : Standing → Request → List ℕ → ℕ
ready_in s c some = length (filter (is_ready s c) some)

abbrev pub ready : Standing → Request → ℕ
ready s c = ready_in s c (places c)

-- ---- what ends its wait

-- what comes of a connection: bytes, where a read is asked for, and the end of what the client sends
abbrev pub comes_to : Polled → ℕ → Arrival → Bool
comes_to p i (Data client bytes) = (client == i) && asks p READABLE
comes_to p i (End client) = (client == i) && asks p (READABLE + SENT_ALL)
comes_to p i _ = false

-- a client, where it is asked for whether one waits
abbrev pub calls_at : Polled → ℕ → Arrival → Bool
calls_at p port (Connect other) = (other == port) && asks p READABLE
calls_at p port _ = false

-- bytes of the input, where a read is asked for, and its end
abbrev pub comes_in : Polled → Arrival → Bool
comes_in p (Input bytes) = asks p READABLE
comes_in p InputEnd = asks p HUNG
comes_in p _ = false

abbrev pub readies_by : Standing → Polled → Arrival → Option Socket → Bool
readies_by s p a None = reads_input (open_of s.state.own.files p.fd) && comes_in p a
readies_by s p a (Some Fresh) = false
readies_by s p a (Some (Bound port)) = false
readies_by s p a (Some (Listening port)) = calls_at p port a
readies_by s p a (Some (Connected i)) = comes_to p i a

-- the arrival makes a descriptor ready that isn't
unfoldable pub readies : Standing → Arrival → Polled → Bool
readies s a p = if is_passed p then false else readies_by s p a (socket_at s.state.net p.fd)

-- something may still come of a descriptor that makes it ready: bytes, or their end
abbrev pub is_source_by : Standing → Polled → Option Socket → Bool
is_source_by s p None = not s.input_over && (reads_input (open_of s.state.own.files p.fd) && asks p (READABLE + HUNG))
is_source_by s p (Some Fresh) = false
is_source_by s p (Some (Bound port)) = false
is_source_by s p (Some (Listening port)) = false
is_source_by s p (Some (Connected i)) = not (is_over s i) && asks p (READABLE + SENT_ALL)

unfoldable pub is_source : Standing → Polled → Bool
is_source s p = if is_passed p then false else is_source_by s p (socket_at s.state.net p.fd)

abbrev pub has_source : Standing → Request → Bool
has_source s c = list_any (λ place. is_source s (looked_at c place)) (places c)

-- the service is at its end: no client comes, and nothing comes of what is looked at
abbrev pub is_at_end : Standing → Request → Bool
is_at_end s c = s.clients_over && not (has_source s c)

-- The wait ends with the first arrival that makes one of the descriptors ready, with the time, and, where nothing else comes of what is looked at,
-- with the last client.
unfoldable pub ends_poll : Standing → Request → Until → Arrival → Bool
ends_poll s c u ClientsEnd = not (has_source s c)
ends_poll s c u (Time seconds nanos) = is_reached u seconds nanos
ends_poll s c u a = list_any (λ place. readies s a (looked_at c place)) (places c)

abbrev pub is_bad : Until → Bool
is_bad until.Bad = true
is_bad until.Never = false
is_bad (until.At seconds nanos) = false

-- more descriptors than can be polled; a number below 0 of those that are selected
abbrev pub has_bad_count : Syscall → Request → Bool
has_bad_count call.Pselect6 c = nat_le (2 ^ 31) (request_arg c 0)
has_bad_count _ c = nat_lt MOST_POLLED (request_arg c 1)

-- so, or with a time that is none
abbrev pub is_refused : Request → Until → Bool
is_refused c u = has_bad_count (syscall_of c.nr) c || is_bad u

-- it waits
unfoldable pub poll_waits : Standing → Request → Until → Bool
poll_waits s c u = not (is_refused c u) && ((ready s c == 0) && not (is_at_end s c))

-- it waits for what it looks at, and for that time
abbrev pub poll_wants : Standing → Request → Until → Option Want
poll_wants s c u = if poll_waits s c u then Some (want.Ready u) else None

-- ---- what it answers, by the time that was given when it was made

-- A wait that nothing ended is as one that a signal interrupts (EINTR): so is a service told that it is at its end.
abbrev pub past_answer : Standing → Until → ℤ
past_answer s until.Never = EINTR
past_answer s until.Bad = EINTR
past_answer s (until.At seconds nanos) = if is_past s seconds nanos then pos 0 else EINTR

abbrev pub idle_answer : Standing → Request → Until → ℤ
idle_answer s c u = if is_at_end s c then EINTR else past_answer s u

abbrev pub is_closed : Standing → Polled → Bool
is_closed s p = not (is_passed p) && is_none (events s p.fd)

abbrev pub has_closed : Standing → Request → Bool
has_closed s c = list_any (λ place. is_closed s (looked_at c place)) (places c)

-- where one of the descriptors isn't open ppoll tells of it, and select is refused
abbrev pub refuses_closed : Syscall → Standing → Request → Bool
refuses_closed call.Pselect6 s c = has_closed s c
refuses_closed _ s c = false

abbrev pub ready_ret : Standing → Request → Until → ℤ
ready_ret s c u = if ready s c == 0 then idle_answer s c u else pos (ready s c)

abbrev pub poll_ret : Standing → Request → Until → ℤ
poll_ret s c u = if refuses_closed (syscall_of c.nr) s c then EBADF else ready_ret s c u

-- what is told of the descriptor in each of these places, in 2 bytes
abbrev pub told_in : Standing → Request → List ℕ → List ℕ
told_in s c [] = []
told_in s c (place ∷ rest) = to_le_bytes w16 (told_of s (looked_at c place)) ++ told_in s c rest

-- so many bits from a place on, the first the lowest: 1 where the descriptor is ready
abbrev pub ready_bits : Standing → Request → ℕ → ℕ → ℕ
ready_bits s c place zero = 0
ready_bits s c place (suc n) = when (is_ready s c place) 1 + 2 * ready_bits s c (place + 1) n

-- the byte of the sets with this number
abbrev pub ready_byte : Standing → Request → ℕ → ℕ
ready_byte s c at = ready_bits s c (8 * at) 8

-- select hands out its sets, with those that are ready alone
abbrev pub told_as : Syscall → Standing → Request → List ℕ
told_as call.Pselect6 s c = map (ready_byte s c) (range_with_len 0 (sets_bytes c.args))
told_as _ s c = told_in s c (places c)

abbrev pub told_bytes : Standing → Request → List ℕ
told_bytes s c = told_as (syscall_of c.nr) s c

-- an error hands out nothing
abbrev pub with_bytes : Standing → Request → ℤ → ℤ × List ℕ
with_bytes s c (pos n) = (pos n, told_bytes s c)
with_bytes s c ret = (ret, [])

unfoldable pub poll_of : Standing → Request → Until → ℤ × List ℕ
poll_of s c u = if is_refused c u then (EINVAL, []) else with_bytes s c (poll_ret s c u)
