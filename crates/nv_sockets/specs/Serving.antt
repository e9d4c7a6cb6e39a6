-- What the kernel with sockets answers: what the kernel without them does, but for the calls on sockets.
use Rattle.std.specs.Prelude.{ℕ, ◌+◌, ℤ, Bool, true, min, nat_lt, List, [], ◌∷◌, map, Option, Some, None, option_map, if◌then◌else◌}
use Rattle.nv_calls.specs.declared.numbers.Syscall.{Syscall}
use Rattle.nv_calls.specs.declared.numbers.Syscall.TheVariants as call
use Rattle.nv_calls.specs.Answer.{Answer, answer, start_at}
use Rattle.nv_calls.specs.Calls.{Request}
use Rattle.nv_calls.specs.Limits.{MOST_BYTES, MOST_VECTORS}
use Rattle.nv_calls.specs.Logs.{Start, Written}
use Rattle.nv_calls.specs.Numbers.{syscall_of}
use Rattle.nv_script.specs.Scripts.{Incoming, Setup}
use Rattle.nv_kernel.specs.Serving as kernel
use Rattle.nv_kernel.specs.Serving.{request_arg}
use Rattle.nv_sockets.specs.declared.socket.Socket.{Socket}
use Rattle.nv_sockets.specs.declared.waiting.Waiting.{Waiting}
use Rattle.nv_sockets.specs.Sockets.{Link, Net, no_sockets, output_limit, socket_at, socket_of, bind_of, listen_of, accept_of, read_socket, write_socket, close_socket}

-- ---- the calls on sockets

-- a call that a socket answers where the descriptor is that of an open one
abbrev pub of_open : Net → ℕ → (Socket → Answer Net) → Option (Answer Net)
of_open net fd next = option_map next (socket_at net fd)

-- of too many vectors none is read or written
abbrev pub unless_many : ℕ → Option (Answer Net) → Option (Answer Net)
unless_many count found = if nat_lt MOST_VECTORS count then None else found

-- what takes the place of the kernel's own answer, where something does
abbrev pub answered : Syscall → Net → Request → Option (Answer Net)
answered call.Socket net c = Some (socket_of net (request_arg c 0) (request_arg c 1) (request_arg c 2))
answered call.Bind net c = Some (bind_of net (request_arg c 0) (request_arg c 2) c.payload)
answered call.Listen net c = Some (listen_of net (request_arg c 0))
answered call.Accept net c = Some (accept_of net (request_arg c 0) 0)
answered call.Accept4 net c = Some (accept_of net (request_arg c 0) (request_arg c 3))
answered call.Close net c = of_open net (request_arg c 0) (close_socket net (request_arg c 0))
answered call.Read net c = of_open net (request_arg c 0) (read_socket net (min (request_arg c 2) MOST_BYTES))
answered call.Readv net c = unless_many (request_arg c 2) (of_open net (request_arg c 0) (read_socket net (min (request_arg c 3) MOST_BYTES)))
answered call.Write net c = of_open net (request_arg c 0) (write_socket net c.payload)
answered call.Writev net c = unless_many (request_arg c 2) (of_open net (request_arg c 0) (write_socket net c.payload))
answered _ net c = None

-- a call on memory that isn't the guest's keeps the kernel's own answer
abbrev pub unless_bad : Net → Request → Option (Answer Net)
unless_bad net c = if c.bad then None else answered (syscall_of c.nr) net c

-- this answer, or the kernel's own, which leaves the sockets as they are
abbrev pub or_own : Net → ℤ → List ℕ → Option (Answer Net) → Answer Net
or_own net ret payload None = answer net ret payload
or_own net ret payload (Some a) = a

-- ---- the kernel

-- what the kernel without sockets holds, and the sockets
pub record State : Type 0 where
  pub own : kernel.State
  pub net : Net

abbrev pub beside : kernel.State → Answer Net → Answer State
beside s a = answer (record { own = s; net = a.state }) a.ret a.payload

abbrev pub joined : Net → Answer kernel.State → Option (Answer Net) → Answer State
joined net a found = beside a.state (or_own net a.ret a.payload found)

-- Each call is served by the kernel without sockets. Where a socket answers, its answer takes the place of that one.
unfoldable pub serve : State → Request → Answer State
serve s c = joined s.net (kernel.serve s.own c) (unless_bad s.net c)

-- ---- from call to call

-- what was written to a connection
abbrev pub link_written : Link → Written
link_written link = record { port = link.port; bytes = link.output }

-- a connection to which nothing was written, and over which all has come
abbrev pub link_from : Incoming → Link
link_from connection = record { port = connection.0; inbox = Some record { unread = connection.1; over = true }; output = [] }

-- they wait in their order, with the numbers from this one on
abbrev pub waiting_from : ℕ → List Incoming → List Waiting
waiting_from i [] = []
waiting_from i (connection ∷ more) = record { port = connection.0; connection = i } ∷ waiting_from (i + 1) more

-- all connections wait
abbrev pub first_net : Bool → List Incoming → Net
first_net polls connections = record { sockets = no_sockets polls; waiting = waiting_from 0 connections; links = map link_from connections; limit = output_limit polls }

-- what a script gives
abbrev pub first_state : Setup → State
first_state setup = record { own = kernel.first_state setup; net = first_net setup.polls setup.connections }

-- how the kernel goes on from what a script gives
unfoldable pub start_of_script : Setup → Start
start_of_script setup = start_at serve (λ (s : State). s.own.files.console) (λ (s : State). map link_written s.net.links) (first_state setup)
