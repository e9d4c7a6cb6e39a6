-- Descriptors whose calls never wait (O_NONBLOCK, SOCK_NONBLOCK).
use Rattle.std.specs.Prelude.{ℕ, ◌-◌, Bool, false, nat_lt, replicate, slice_index_or, slice_set, if◌then◌else◌}
use Rattle.nv_arriving.specs.declared.nonblocking.NonBlocking.{NonBlocking}

-- each waits
unfoldable pub each_waits : NonBlocking
each_waits = record { input = false; sockets = replicate 960 false }

-- calls on the socket of the descriptor never wait
unfoldable pub is_nonblocking_socket : NonBlocking → ℕ → Bool
is_nonblocking_socket q fd = if nat_lt fd 64 then false else slice_index_or q.sockets (fd - 64) false

-- from now on they don't, or do
unfoldable pub with_socket : NonBlocking → ℕ → Bool → NonBlocking
with_socket q fd on = if nat_lt fd 64 then q else record q { sockets = slice_set q.sockets (fd - 64) on }
