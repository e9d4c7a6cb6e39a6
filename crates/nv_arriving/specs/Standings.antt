-- What a kernel whose input arrives holds.
use Rattle.std.specs.Prelude.{ℕ, Bool, ◌||◌}
use Rattle.nv_sockets.specs.Serving.{State}
use Rattle.nv_sockets.specs.Sockets as sockets
use Rattle.nv_arriving.specs.declared.nonblocking.NonBlocking.{NonBlocking}

-- What the kernel holds, and what won't come any more: bytes for descriptor 0, clients, and bytes of any connection. Whether the later calls are in the
-- table, and the descriptors whose calls never wait.
pub record Standing : Type 0 where
  pub state : State
  pub input_over : Bool
  pub clients_over : Bool
  pub data_over : Bool
  pub polls : Bool
  pub nonblocking : NonBlocking

-- nothing more comes over the connection
abbrev pub is_over : Standing → ℕ → Bool
is_over s i = s.data_over || sockets.is_over s.state.net i

abbrev pub with_state : Standing → State → Standing
with_state s state = record s { state = state }
