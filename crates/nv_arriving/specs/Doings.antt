-- What a run does outside, in order: event by event, the arrivals that its call takes in, then what it says.
use Rattle.std.specs.Prelude.{ℕ, ℤ, pos, negsuc, List, [], ◌∷◌, ◌++◌, take, map, Option, Some, None}
use Rattle.nv_calls.specs.declared.numbers.Syscall.{Syscall}
use Rattle.nv_calls.specs.declared.numbers.Syscall.TheVariants as call
use Rattle.nv_calls.specs.Calls.{Request, Entry}
use Rattle.nv_calls.specs.Logs.{calls_of}
use Rattle.nv_calls.specs.Numbers.{syscall_of}
use Rattle.nv_script.specs.Scripts.{Setup}
use Rattle.nv_kernel.specs.Serving.{request_arg}
use Rattle.nv_sockets.specs.declared.socket.Socket.{Socket}
use Rattle.nv_sockets.specs.declared.socket.Socket.TheVariants.{Fresh, Bound, Listening, Connected}
use Rattle.nv_sockets.specs.Sockets.{Net, socket_at, link_output}
use Rattle.nv_sockets.specs.Serving.{State}
use Rattle.nv_script.specs.Arrivals.{Arrival}
use Rattle.nv_script.specs.Doings.{Said, Accepted, Sent, Closed, Printed, Doing, Takes, Says}
use Rattle.nv_arriving.specs.Arriving.{Stage, taken, ready_for, answer_next, serve_next, first_stage}
use Rattle.nv_arriving.specs.Kernel.{after}

-- ---- what a call says, by what it finds and what it leaves

-- nothing is said of no bytes
abbrev pub of_bytes : (List ℕ → Said) → List ℕ → List Said
of_bytes say [] = []
of_bytes say (byte ∷ bytes) = say (byte ∷ bytes) ∷ []

-- the socket of the descriptor that is a call's result
abbrev pub socket_by : Net → ℤ → Option Socket
socket_by net (pos fd) = socket_at net fd
socket_by net (negsuc n) = None

-- the connection of this socket is accepted
abbrev pub accepted_as : Option Socket → List Said
accepted_as None = []
accepted_as (Some Fresh) = []
accepted_as (Some (Bound port)) = []
accepted_as (Some (Listening port)) = []
accepted_as (Some (Connected i)) = Accepted i ∷ []

-- what accept(2) and accept4(2) answered names a connection now
abbrev pub accepted : Syscall → Option Socket → List Said
accepted call.Accept made = accepted_as made
accepted call.Accept4 made = accepted_as made
accepted _ made = []

-- what was written to the connection of a socket; nothing where it has none
abbrev pub written : Net → Option Socket → List ℕ
written net None = []
written net (Some Fresh) = []
written net (Some (Bound port)) = []
written net (Some (Listening port)) = []
written net (Some (Connected i)) = link_output net i

-- bytes for the connection of a socket
abbrev pub sent : Option Socket → List ℕ → List Said
sent None bytes = []
sent (Some Fresh) bytes = []
sent (Some (Bound port)) bytes = []
sent (Some (Listening port)) bytes = []
sent (Some (Connected i)) bytes = of_bytes (Sent i) bytes

-- a connection's descriptor, of which this was the socket, is none's now
abbrev pub closed : Option Socket → Option Socket → List Said
closed (Some (Connected i)) None = Closed i ∷ []
closed _ _ = []

-- A call that finds this, has this result and leaves that has said this. What it sends and closes is the socket of its first argument.
abbrev pub said : State → Request → ℤ → State → List Said
said before c ret now =
    let socket = socket_at before.net (request_arg c 0) in
    accepted (syscall_of c.nr) (socket_by now.net ret)
    ++ (sent socket (after (written before.net socket) (written now.net socket))
    ++ (closed socket (socket_at now.net (request_arg c 0))
    ++ of_bytes Printed (after before.own.files.console now.own.files.console)))

-- ---- from call to call

-- what a call does outside: it takes in what it waits for, is served, and says what it says
abbrev pub doings_of : Stage → Request → List Doing
doings_of g c = map Takes (take (taken g c) g.rest) ++ map Says (said (ready_for g c).state c (answer_next g c).ret (answer_next g c).state.state)

abbrev pub doings_from : Stage → List Request → List Doing
doings_from g [] = []
doings_from g (c ∷ cs) = doings_of g c ++ doings_from (serve_next g c).state cs

-- what a log does outside over a script, as far as this has come
unfoldable pub doings : Setup → List Arrival → List Entry → List Doing
doings setup arrivals log = doings_from (first_stage setup arrivals) (calls_of log)
