-- Sockets over the connections of a script (socket(2), bind(2), listen(2), accept(2), ip(7)), as lists whose places are the numbers.
use Rattle.std.specs.Prelude.{ℕ, ◌+◌, ◌-◌, ◌*◌, ℤ, pos, Bool, false, ◌&&◌, ◌||◌, ◌==◌, min, nat_lt, nat_le, List, [], ◌∷◌, ◌++◌, length, take, drop, replicate, Option, Some, None, is_none, is_some, not, true, option_map, slice_index, slice_index_or, slice_set, if◌then◌else◌}
use Rattle.std.specs.List.{list_any, position_from}
use Rattle.nv_calls.specs.Answer.{Answer, answer, only}
use Rattle.nv_calls.specs.Errors.{EBADF, EAGAIN, EINVAL, EMFILE, ENOSPC, EPIPE, ENOTSOCK, EADDRINUSE, ENOTCONN}
use Rattle.nv_fs.specs.Stored.{MOST_WRITTEN}
use Rattle.nv_sockets.specs.declared.socket.Socket.{Socket}
use Rattle.nv_sockets.specs.declared.socket.Socket.TheVariants.{Fresh, Bound, Listening, Connected}
use Rattle.nv_sockets.specs.declared.waiting.Waiting.{Waiting}

-- what has come over a connection and isn't read yet, and whether the client has sent all
pub record Inbox : Type 0 where
  pub unread : List ℕ
  pub over : Bool

-- a connection: the port that it comes to, what comes over it until the guests close it, and what was written to it
pub record Link : Type 0 where
  pub port : ℕ
  pub inbox : Option Inbox
  pub output : List ℕ

-- The sockets of the descriptors from 64 on; the connections that wait to be accepted, in the order in which they came; all connections; and how many bytes each takes.
pub record Net : Type 0 where
  pub sockets : List (Option Socket)
  pub waiting : List Waiting
  pub links : List Link
  pub limit : ℕ

-- ---- at the start

-- how many descriptors sockets have, from 64 on: 960 where the later calls are in the table, so that there are 1,024 in all
unfoldable pub socket_count : Bool → ℕ
socket_count polls = if polls then 960 else 64

-- how many bytes may be written to a connection: as many as 64 bits count where the later calls are in the table
unfoldable pub output_limit : Bool → ℕ
output_limit polls = if polls then 18446744073709551615 else 1048576

-- no socket is open
unfoldable pub no_sockets : Bool → List (Option Socket)
no_sockets polls = replicate (socket_count polls) None

-- ---- descriptors

-- the socket of a descriptor; None where it isn't that of an open socket
unfoldable pub socket_at : Net → ℕ → Option Socket
socket_at net fd = if nat_lt fd 64 then None else slice_index_or net.sockets (fd - 64) None

-- descriptors below 64 are those of files
abbrev pub fault_of : ℕ → ℤ
fault_of fd = if nat_lt fd 64 then ENOTSOCK else EBADF

-- the answer of a call that needs an open socket
abbrev pub on_socket : Net → ℕ → Option Socket → (Socket → Answer Net) → Answer Net
on_socket net fd None next = only net (fault_of fd)
on_socket net fd (Some socket) next = next socket

-- a descriptor names this socket from now on, or none
abbrev pub with_socket : Net → ℕ → Option Socket → Net
with_socket net fd socket = record net { sockets = slice_set net.sockets (fd - 64) socket }

-- the place of the least descriptor that is free
unfoldable pub free_place : Net → Option ℕ
free_place net = position_from is_none 0 net.sockets

-- a new socket at a place; its descriptor is the result
abbrev pub socket_opened : Net → ℕ → Socket → Answer Net
socket_opened net place socket = answer (record net { sockets = slice_set net.sockets place (Some socket) }) (pos (64 + place)) []

-- ---- socket(2)

-- SOCK_NONBLOCK (0x800) and SOCK_CLOEXEC (0x80000)
abbrev pub are_flags : ℕ → Bool
are_flags flags = (flags == 0) || (flags == 0x800) || (flags == 0x80000) || (flags == 0x80800)

-- SOCK_STREAM (1), with or without these flags
abbrev pub is_stream : ℕ → Bool
is_stream kind = (kind == 1) || (kind == 0x801) || (kind == 0x80001) || (kind == 0x80801)

-- a stream of AF_INET (2), by TCP (6) or with no protocol named
abbrev pub is_tcp : ℕ → ℕ → ℕ → Bool
is_tcp domain kind protocol = (domain == 2) && (is_stream kind && ((protocol == 0) || (protocol == 6)))

abbrev pub made_at : Net → Option ℕ → Answer Net
made_at net None = only net EMFILE
made_at net (Some place) = socket_opened net place Fresh

unfoldable pub socket_of : Net → ℕ → ℕ → ℕ → Answer Net
socket_of net domain kind protocol = if is_tcp domain kind protocol then made_at net (free_place net) else only net EINVAL

-- ---- bind(2)

-- the port of an address of IPv4: its family is 2 in the first two bytes, the lower first, and the port is in the next two, the higher first
abbrev pub port_by : ℕ → ℕ → ℕ → ℕ → Option ℕ
port_by a b c d = if (a == 2) && (b == 0) then Some (c * 256 + d) else None

abbrev pub port_in : List ℕ → Option ℕ
port_in address = if nat_lt (length address) 4 then None else port_by (slice_index address 0) (slice_index address 1) (slice_index address 2) (slice_index address 3)

-- addresses of 16 to 128 bytes are taken
abbrev pub is_size : ℕ → Bool
is_size size = nat_le 16 size && nat_le size 128

abbrev pub has_port : ℕ → Option Socket → Bool
has_port port None = false
has_port port (Some Fresh) = false
has_port port (Some (Bound other)) = other == port
has_port port (Some (Listening other)) = other == port
has_port port (Some (Connected i)) = false

-- an open socket is bound to the port
unfoldable pub is_used : Net → ℕ → Bool
is_used net port = list_any (has_port port) net.sockets

abbrev pub bind_to : Net → ℕ → Option ℕ → Answer Net
bind_to net fd None = only net EINVAL
bind_to net fd (Some port) = if is_used net port then only net EADDRINUSE else answer (with_socket net fd (Some (Bound port))) (pos 0) []

abbrev pub bind_socket : Net → ℕ → ℕ → List ℕ → Socket → Answer Net
bind_socket net fd size address Fresh = if is_size size then bind_to net fd (port_in address) else only net EINVAL
bind_socket net fd size address (Bound port) = only net EINVAL
bind_socket net fd size address (Listening port) = only net EINVAL
bind_socket net fd size address (Connected i) = only net EINVAL

unfoldable pub bind_of : Net → ℕ → ℕ → List ℕ → Answer Net
bind_of net fd size address = on_socket net fd (socket_at net fd) (bind_socket net fd size address)

-- ---- listen(2)

abbrev pub listen_socket : Net → ℕ → Socket → Answer Net
listen_socket net fd Fresh = only net EINVAL
listen_socket net fd (Bound port) = answer (with_socket net fd (Some (Listening port))) (pos 0) []
listen_socket net fd (Listening port) = only net (pos 0)
listen_socket net fd (Connected i) = only net EINVAL

unfoldable pub listen_of : Net → ℕ → Answer Net
listen_of net fd = on_socket net fd (socket_at net fd) (listen_socket net fd)

-- ---- accept(2)

-- the first connection that waits at the port
abbrev pub first_at : ℕ → List Waiting → Option ℕ
first_at port [] = None
first_at port (w ∷ ws) = if w.port == port then Some w.connection else first_at port ws

unfoldable pub next_at : Net → ℕ → Option ℕ
next_at net port = first_at port net.waiting

-- all but the first of this number
abbrev pub without : ℕ → List Waiting → List Waiting
without i [] = []
without i (w ∷ ws) = if w.connection == i then ws else w ∷ without i ws

-- the connection waits no longer
abbrev pub with_accepted : Net → ℕ → Net
with_accepted net i = record net { waiting = without i net.waiting }

-- EAGAIN in place of waiting
abbrev pub accept_next : Net → Option ℕ → Option ℕ → Answer Net
accept_next net None next = only net EMFILE
accept_next net (Some place) None = only net EAGAIN
accept_next net (Some place) (Some i) = socket_opened (with_accepted net i) place (Connected i)

abbrev pub accept_socket : Net → Socket → Answer Net
accept_socket net Fresh = only net EINVAL
accept_socket net (Bound port) = only net EINVAL
accept_socket net (Listening port) = accept_next net (free_place net) (next_at net port)
accept_socket net (Connected i) = only net EINVAL

abbrev pub accept_flagged : Net → ℕ → Socket → Answer Net
accept_flagged net flags socket = if are_flags flags then accept_socket net socket else only net EINVAL

unfoldable pub accept_of : Net → ℕ → ℕ → Answer Net
accept_of net fd flags = on_socket net fd (socket_at net fd) (accept_flagged net flags)

-- ---- read(2) and readv(2), of no more bytes than a call moves

-- the connection of a number; nothing where there is none
abbrev pub link_at : Net → ℕ → Link
link_at net i = slice_index_or net.links i record { port = 0; inbox = None; output = [] }

abbrev pub unread_in : Option Inbox → List ℕ
unread_in None = []
unread_in (Some inbox) = inbox.unread

-- what has come over a connection and isn't read yet; nothing where it is closed
abbrev pub unread_of : Net → ℕ → List ℕ
unread_of net i = unread_in (link_at net i).inbox

abbrev pub over_in : Option Inbox → Bool
over_in None = true
over_in (Some inbox) = inbox.over

-- something has come that isn't read yet
abbrev pub has_unread : Net → ℕ → Bool
has_unread net i = not (length (unread_of net i) == 0)

-- nothing more comes over a connection: the client has sent all, or it is closed
abbrev pub is_over : Net → ℕ → Bool
is_over net i = over_in (link_at net i).inbox

-- the guests haven't closed the connection
abbrev pub is_going : Net → ℕ → Bool
is_going net i = is_some (link_at net i).inbox

abbrev pub link_output : Net → ℕ → List ℕ
link_output net i = (link_at net i).output

-- a connection as this makes of it
abbrev pub with_link : Net → ℕ → Link → Net
with_link net i link = record net { links = slice_set net.links i link }

abbrev pub with_inbox : Net → ℕ → (Inbox → Inbox) → Net
with_inbox net i change = with_link net i (record (link_at net i) { inbox = option_map change (link_at net i).inbox })

-- at most n bytes of what isn't read
abbrev pub read_link : Net → ℕ → ℕ → Answer Net
read_link net i n =
    let part = take n (unread_of net i) in
    answer (with_inbox net i (λ inbox. record inbox { unread = drop n inbox.unread })) (pos (length part)) part

abbrev pub read_socket : Net → ℕ → Socket → Answer Net
read_socket net n Fresh = only net ENOTCONN
read_socket net n (Bound port) = only net ENOTCONN
read_socket net n (Listening port) = only net ENOTCONN
read_socket net n (Connected i) = read_link net i n

-- ---- write(2) and writev(2)

abbrev pub with_output : Net → ℕ → List ℕ → Net
with_output net i bytes = with_link net i (record (link_at net i) { output = bytes })

-- a connection takes as many bytes as fit the limit
abbrev pub write_link : Net → ℕ → List ℕ → Answer Net
write_link net i bytes =
    if length bytes == 0 then only net (pos 0)
    else (if not (is_going net i) then only net EPIPE
    else (if nat_le net.limit (length (link_output net i)) then only net ENOSPC
    else (let part = take (min MOST_WRITTEN (net.limit - length (link_output net i))) bytes in answer (with_output net i (link_output net i ++ part)) (pos (length part)) [])))

abbrev pub write_socket : Net → List ℕ → Socket → Answer Net
write_socket net bytes Fresh = only net EPIPE
write_socket net bytes (Bound port) = only net EPIPE
write_socket net bytes (Listening port) = only net EPIPE
write_socket net bytes (Connected i) = write_link net i bytes

-- ---- close(2): what was written to the connection stays, and of what comes over it nothing

abbrev pub closed_link : Net → Socket → Net
closed_link net Fresh = net
closed_link net (Bound port) = net
closed_link net (Listening port) = net
closed_link net (Connected i) = with_link net i (record (link_at net i) { inbox = None })

abbrev pub close_socket : Net → ℕ → Socket → Answer Net
close_socket net fd socket = answer (closed_link (with_socket net fd None) socket) (pos 0) []
