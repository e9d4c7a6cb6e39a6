-- What a call did outside, by what it is, what its descriptor named, and its result.
use Rattle.std.specs.Prelude.{ℕ, ℤ, pos, negsuc, Bool, true, false, nat_lt, Option, Some, None, if◌then◌else◌}
use Rattle.nv_calls.specs.declared.numbers.Syscall.{Syscall}
use Rattle.nv_calls.specs.declared.numbers.Syscall.TheVariants as call
use Rattle.nv_calls.specs.Calls.{Request}
use Rattle.nv_calls.specs.Limits.{MOST_VECTORS}
use Rattle.nv_calls.specs.Numbers.{syscall_of}
use Rattle.nv_fs.specs.Told.{prints}
use Rattle.nv_kernel.specs.Serving as kernel
use Rattle.nv_kernel.specs.Serving.{request_arg}
use Rattle.nv_sockets.specs.declared.did.Did.{Did}
use Rattle.nv_sockets.specs.declared.did.Did.TheVariants.{Nothing, Accepted, Sent, Closed, Printed}
use Rattle.nv_sockets.specs.declared.socket.Socket.{Socket}
use Rattle.nv_sockets.specs.declared.socket.Socket.TheVariants.{Fresh, Bound, Listening, Connected}
use Rattle.nv_sockets.specs.Sockets.{Net, socket_at}
use Rattle.nv_sockets.specs.Serving.{State}

-- nothing, where the result is an error
abbrev pub by_result : (ℕ → Did) → ℤ → Did
by_result did (pos n) = did n
by_result did (negsuc n) = Nothing

-- what was done at an open socket; this, where there is none
abbrev pub at_open : Did → (Socket → Did) → Option Socket → Did
at_open none did None = none
at_open none did (Some socket) = did socket

abbrev pub accepted : Socket → Did
accepted Fresh = Nothing
accepted (Bound port) = Nothing
accepted (Listening port) = Nothing
accepted (Connected i) = Accepted i

-- accept(2) and accept4(2): the result is the descriptor of the connection
abbrev pub accepted_by : Net → ℤ → Did
accepted_by now ret = by_result (λ fd. at_open Nothing accepted (socket_at now fd)) ret

-- close(2)
abbrev pub closed : Socket → Did
closed Fresh = Nothing
closed (Bound port) = Nothing
closed (Listening port) = Nothing
closed (Connected i) = Closed i

-- write(2) and writev(2): the result says how many bytes
abbrev pub sent : ℤ → Socket → Did
sent ret Fresh = Nothing
sent ret (Bound port) = Nothing
sent ret (Listening port) = Nothing
sent ret (Connected i) = by_result (Sent i) ret

abbrev pub printed : Bool → ℕ → Did
printed true n = Printed n
printed false n = Nothing

-- what the kernel without sockets did, by whether the descriptor is the console's
abbrev pub own_did : Syscall → Bool → ℤ → Did
own_did call.Write console ret = by_result (printed console) ret
own_did call.Writev console ret = by_result (printed console) ret
own_did _ console ret = Nothing

-- what a call did that left these sockets, where the kernel without sockets did this
abbrev pub did_beside : Syscall → Net → Request → Did → ℤ → Net → Did
did_beside call.Accept net c own ret now = accepted_by now ret
did_beside call.Accept4 net c own ret now = accepted_by now ret
did_beside call.Close net c own ret now = at_open Nothing closed (socket_at net (request_arg c 0))
did_beside call.Write net c own ret now = at_open own (sent ret) (socket_at net (request_arg c 0))
did_beside call.Writev net c own ret now = if nat_lt MOST_VECTORS (request_arg c 2) then own else at_open own (sent ret) (socket_at net (request_arg c 0))
did_beside _ net c own ret now = Nothing

-- what the kernel without sockets does
abbrev pub own_of : State → Request → Did
own_of s c = own_did (syscall_of c.nr) (prints s.own.files (request_arg c 0)) (kernel.serve s.own c).ret

-- what a call did that had this result and left these sockets
abbrev pub did : State → Request → ℤ → Net → Did
did s c ret now = if c.bad then Nothing else did_beside (syscall_of c.nr) s.net c (own_of s c) ret now
