-- What a kernel whose input arrives answers: a call that would wait takes in what comes, up to what it waits for, and is then served as it always was; the later
-- calls are answered here.
use Rattle.std.specs.Prelude.{◌≡◌, ℕ, ◌+◌, ◌*◌, ℤ, pos, Bool, true, false, not, ◌&&◌, ◌==◌, nat_lt, bit_and, List, [], ◌∷◌, ◌++◌, take, drop, map, Option, Some, None, option_map, is_some, is_none, if◌then◌else◌}
use Rattle.nv_calls.specs.declared.numbers.Syscall.{Syscall}
use Rattle.nv_calls.specs.declared.numbers.Syscall.TheVariants as call
use Rattle.nv_calls.specs.Answer.{Answer, answer, only, start_at}
use Rattle.nv_calls.specs.Calls.{Request}
use Rattle.nv_calls.specs.Errors.{EAGAIN}
use Rattle.nv_calls.specs.Limits.{MOST_VECTORS}
use Rattle.nv_calls.specs.Logs.{Start}
use Rattle.nv_calls.specs.Numbers.{syscall_of}
use Rattle.nv_fs.specs.Waits.{waits_on_input}
use Rattle.nv_script.specs.Scripts.{Setup}
use Rattle.nv_kernel.specs.Serving.{request_arg, second}
use Rattle.nv_sockets.specs.declared.socket.Socket.{Socket}
use Rattle.nv_sockets.specs.declared.socket.Socket.TheVariants.{Fresh, Bound, Listening, Connected}
use Rattle.nv_sockets.specs.Sockets.{Net, socket_at, are_flags, free_place, next_at, has_unread}
use Rattle.nv_sockets.specs.Coming.{connected, with_data, ended}
use Rattle.nv_sockets.specs.Serving.{State, serve, first_state, link_written}
use Rattle.nv_arriving.specs.declared.timing.Until.{Until}
use Rattle.nv_arriving.specs.declared.waiting.Want.{Want}
use Rattle.nv_arriving.specs.declared.waiting.Want.TheVariants as want
use Rattle.nv_script.specs.Arrivals.{Arrival, Input, InputEnd, ClientsEnd, Connect, Data, End, Time}
use Rattle.nv_arriving.specs.Arrivals.{ends, taken_for, in_vain}
use Rattle.nv_arriving.specs.NonBlocking.{each_waits, with_socket}
use Rattle.nv_arriving.specs.Timing.{until_of, sleep_wants, slept, with_time}
use Rattle.nv_arriving.specs.Polling.{poll_wants, poll_of}
use Rattle.nv_arriving.specs.Flags.{NONBLOCK, is_nonblocking, control_of}
pub use Rattle.nv_arriving.specs.Standings.{Standing, is_over, with_state}

-- ---- what a call waits for

abbrev pub wants_input : Standing → ℕ → ℕ → Option Want
wants_input s fd most = if not s.input_over && (not (most == 0) && waits_on_input s.state.own.files fd) then Some want.Input else None

abbrev pub wants_data : Standing → ℕ → ℕ → Option Want
wants_data s i most = if not (is_over s i) && (not (most == 0) && not (has_unread s.state.net i)) then Some (want.Data i) else None

-- a read of at most so many bytes of a descriptor, which may be that of a socket
abbrev pub read_wants : Standing → ℕ → ℕ → Option Socket → Option Want
read_wants s fd most None = wants_input s fd most
read_wants s fd most (Some Fresh) = None
read_wants s fd most (Some (Bound port)) = None
read_wants s fd most (Some (Listening port)) = None
read_wants s fd most (Some (Connected i)) = wants_data s i most

abbrev pub wants_client : Standing → ℕ → Option Want
wants_client s port = if not s.clients_over && (is_some (free_place s.state.net) && is_none (next_at s.state.net port)) then Some (want.Client port) else None

abbrev pub accept_wants : Standing → ℕ → Option Socket → Option Want
accept_wants s flags None = None
accept_wants s flags (Some Fresh) = None
accept_wants s flags (Some (Bound port)) = None
accept_wants s flags (Some (Listening port)) = if are_flags flags then wants_client s port else None
accept_wants s flags (Some (Connected i)) = None

-- what a call would wait for on the descriptor of its first argument, were it to wait
abbrev pub wants_on : Syscall → Standing → Request → Option Want
wants_on call.Read s c = read_wants s (request_arg c 0) (request_arg c 2) (socket_at s.state.net (request_arg c 0))
wants_on call.Readv s c = if nat_lt MOST_VECTORS (request_arg c 2) then None else read_wants s (request_arg c 0) (request_arg c 3) (socket_at s.state.net (request_arg c 0))
wants_on call.Accept s c = accept_wants s 0 (socket_at s.state.net (request_arg c 0))
wants_on call.Accept4 s c = accept_wants s (request_arg c 3) (socket_at s.state.net (request_arg c 0))
wants_on _ s c = None

abbrev pub wants_as : Syscall → Standing → Request → Option Want
wants_as call.Ppoll s c = if s.polls then poll_wants s c (until_of s c) else None
wants_as call.Pselect6 s c = if s.polls then poll_wants s c (until_of s c) else None
wants_as call.ClockNanosleep s c = if s.polls then sleep_wants s (until_of s c) else None
wants_as k s c = if is_nonblocking s (request_arg c 0) then None else wants_on k s c

-- what a call waits for; None where it doesn't wait
unfoldable pub wants : Standing → Request → Option Want
wants s c = if c.bad then None else wants_as (syscall_of c.nr) s c

-- what ends a call's wait; None where it doesn't wait
abbrev pub wait_of : Standing → Request → Option (Arrival → Bool)
wait_of s c = option_map (ends s c) (wants s c)

-- ---- what arrives

abbrev pub with_input : Standing → List ℕ → Standing
with_input s bytes = record s { state = record s.state { own = record s.state.own { files = record s.state.own.files { input = s.state.own.files.input ++ bytes } } } }

abbrev pub with_net : Standing → Net → Standing
with_net s net = record s { state = record s.state { net = net } }

abbrev pub arrive : Standing → Arrival → Standing
arrive s (Input bytes) = with_input s bytes
arrive s InputEnd = record s { input_over = true }
arrive s ClientsEnd = record s { clients_over = true }
arrive s (Connect port) = with_net s (connected s.state.net port)
arrive s (Data i bytes) = with_net s (with_data s.state.net i bytes)
arrive s (End i) = with_net s (ended s.state.net i)
arrive s (Time seconds nanos) = with_time s (seconds * second + nanos)

-- one after another
abbrev pub arrive_all : Standing → List Arrival → Standing
arrive_all s [] = s
arrive_all s (a ∷ xs) = arrive_all (arrive s a) xs

-- nothing more comes of anything
abbrev pub with_end : Standing → Standing
with_end s = record s { input_over = true; clients_over = true; data_over = true }

-- where the later calls are in the table, a call that waits in vain is told that nothing more comes
abbrev pub unless_vain : Bool → Standing → Standing
unless_vain vain s = if vain && s.polls then with_end s else s

-- ---- what is answered in place of the answer of the kernel whose calls wait for one thing

abbrev pub counted : Standing → Standing
counted s = record s { state = record s.state { own = record s.state.own { served = s.state.own.served + 1 } } }

abbrev pub reached_by : ℤ × Standing → Answer Standing
reached_by a = only (counted a.1) a.0

abbrev pub polled : Standing → ℤ × List ℕ → Answer Standing
polled s a = answer (counted s) a.0 a.1

-- a call that would wait, on a descriptor whose calls never do
abbrev pub would_wait : Syscall → Standing → Request → Bool
would_wait k s c = is_nonblocking s (request_arg c 0) && is_some (wants_on k s c)

abbrev pub later_as : Syscall → Standing → Request → Until → Option (Answer Standing)
later_as call.Fcntl s c u = Some (reached_by (control_of s (request_arg c 0) (request_arg c 1) (request_arg c 2)))
later_as call.ClockNanosleep s c u = Some (reached_by (slept s u))
later_as call.Ppoll s c u = Some (polled s (poll_of s c u))
later_as call.Pselect6 s c u = Some (polled s (poll_of s c u))
later_as k s c u = if would_wait k s c then Some (reached_by (EAGAIN, s)) else None

-- nothing of runs that don't have the later calls, and of calls on memory that isn't the guest's
unfoldable pub later : Standing → Request → Until → Option (Answer Standing)
later s c u = if s.polls && not c.bad then later_as (syscall_of c.nr) s c u else None

-- calls on a new socket never wait, or do, as its flags say
abbrev pub nonblocking_by : Syscall → Request → Option Bool
nonblocking_by call.Socket c = Some (not (bit_and (request_arg c 1) NONBLOCK == 0))
nonblocking_by call.Accept c = Some false
nonblocking_by call.Accept4 c = Some (not (bit_and (request_arg c 3) NONBLOCK == 0))
nonblocking_by _ c = None

abbrev pub noted : Standing → ℤ → Option Bool → Standing
noted s (pos fd) (Some on) = record s { nonblocking = with_socket s.nonblocking fd on }
noted s ret on = s

abbrev pub note : Standing → Request → ℤ → Standing
note s c ret = if s.polls then noted s ret (nonblocking_by (syscall_of c.nr) c) else s

abbrev pub own_answer : Standing → Request → Answer State → Answer Standing
own_answer s c a = answer (note (with_state s a.state) c a.ret) a.ret a.payload

abbrev pub or_own : Standing → Request → Option (Answer Standing) → Answer Standing
or_own s c None = own_answer s c (serve s.state c)
or_own s c (Some a) = a

-- what a call is answered whose wait is over at this time, and what it leaves
unfoldable pub serve_by : Standing → Request → Until → Answer Standing
serve_by s c u = or_own s c (later s c u)

-- ---- from call to call

-- what the kernel holds, and what has come and isn't taken in yet
pub record Stage : Type 0 where
  pub here : Standing
  pub rest : List Arrival

-- how many arrivals the call takes in
abbrev pub taken : Stage → Request → ℕ
taken g c = taken_for (wait_of g.here c) g.rest

-- what the kernel holds once the call has what it waits for
abbrev pub ready_for : Stage → Request → Standing
ready_for g c = unless_vain (in_vain (wait_of g.here c) g.rest) (arrive_all g.here (take (taken g c) g.rest))

-- what the call is answered, and what the kernel then holds
abbrev pub answer_next : Stage → Request → Answer Standing
answer_next g c = serve_by (ready_for g c) c (until_of g.here c)

-- what the call is answered, and what it leaves
abbrev pub serve_next : Stage → Request → Answer Stage
serve_next g c = let a = answer_next g c in answer (record { here = a.state; rest = drop (taken g c) g.rest }) a.ret a.payload

-- none of the calls waited while nothing of what it waited for had come
abbrev pub Satisfied : Stage → List Request → Type 0
Satisfied g [] = Unit {0}
Satisfied g (c ∷ cs) = (in_vain (wait_of g.here c) g.rest ≡ false) × Satisfied (serve_next g c).state cs

-- what a script gives
abbrev pub first_standing : Setup → Standing
first_standing setup = record {
  state = first_state setup;
  input_over = false;
  clients_over = false;
  data_over = false;
  polls = setup.polls;
  nonblocking = each_waits;
}

abbrev pub first_stage : Setup → List Arrival → Stage
first_stage setup arrivals = record { here = first_standing setup; rest = arrivals }

-- how the kernel goes on from a script, as far as this has come
unfoldable pub start_of_arrivals : Setup → List Arrival → Start
start_of_arrivals setup arrivals =
    start_at serve_next (λ (g : Stage). g.here.state.own.files.console) (λ (g : Stage). map link_written g.here.state.net.links) (first_stage setup arrivals)
