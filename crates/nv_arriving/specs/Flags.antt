-- fcntl(2), and whether the calls on a descriptor wait.
use Rattle.std.specs.Prelude.{ℕ, ◌+◌, ℤ, pos, Bool, not, ◌&&◌, ◌||◌, ◌==◌, bit_and, Option, Some, None, option_map, if◌then◌else◌}
use Rattle.nv_calls.specs.Errors.{EBADF, EINVAL}
use Rattle.nv_fs.specs.Polls.{when, file_flags}
use Rattle.nv_fs.specs.States.{open_of}
use Rattle.nv_fs.specs.Waits.{reads_input}
use Rattle.nv_sockets.specs.declared.socket.Socket.{Socket}
use Rattle.nv_sockets.specs.Sockets.{socket_at}
use Rattle.nv_arriving.specs.NonBlocking.{is_nonblocking_socket, with_socket}
use Rattle.nv_arriving.specs.Standings.{Standing}

-- O_NONBLOCK, and SOCK_NONBLOCK
abbrev pub NONBLOCK : ℕ
NONBLOCK = 0x800

abbrev pub is_nonblocking_by : Standing → ℕ → Option Socket → Bool
is_nonblocking_by s fd None = s.nonblocking.input && reads_input (open_of s.state.own.files fd)
is_nonblocking_by s fd (Some socket) = is_nonblocking_socket s.nonblocking fd

-- calls on the descriptor never wait
unfoldable pub is_nonblocking : Standing → ℕ → Bool
is_nonblocking s fd = is_nonblocking_by s fd (socket_at s.state.net fd)

-- a socket is read and written (O_RDWR, 2)
abbrev pub flags_by : Standing → ℕ → Option Socket → Option ℕ
flags_by s fd None = option_map (λ flags. flags + when (is_nonblocking s fd) NONBLOCK) (file_flags s.state.own.files fd)
flags_by s fd (Some socket) = Some (2 + when (is_nonblocking_socket s.nonblocking fd) NONBLOCK)

-- None where it isn't open
unfoldable pub flags : Standing → ℕ → Option ℕ
flags s fd = flags_by s fd (socket_at s.state.net fd)

-- of what is set O_NONBLOCK is kept, of sockets and of the input
abbrev pub flags_set : Standing → ℕ → Bool → Option Socket → Standing
flags_set s fd on None = if reads_input (open_of s.state.own.files fd) then record s { nonblocking = record s.nonblocking { input = on } } else s
flags_set s fd on (Some socket) = record s { nonblocking = with_socket s.nonblocking fd on }

abbrev pub with_flags : Standing → ℕ → ℕ → Standing
with_flags s fd value = flags_set s fd (not (bit_and value NONBLOCK == 0)) (socket_at s.state.net fd)

-- F_GETFD (1) and F_SETFD (2), which keep nothing, since there is no exec; F_GETFL (3) and F_SETFL (4)
abbrev pub control_open : Standing → ℕ → ℕ → ℕ → ℕ → ℤ × Standing
control_open s fd command value found =
    if (command == 1) || (command == 2) then (pos 0, s)
    else if command == 3 then (pos found, s)
    else if command == 4 then (pos 0, with_flags s fd value)
    else (EINVAL, s)

abbrev pub control_by : Standing → ℕ → ℕ → ℕ → Option ℕ → ℤ × Standing
control_by s fd command value None = (EBADF, s)
control_by s fd command value (Some found) = control_open s fd command value found

unfoldable pub control_of : Standing → ℕ → ℕ → ℕ → ℤ × Standing
control_of s fd command value = control_by s fd command value (flags s fd)
