-- The memory that was taken in advance for what a call writes to a connection.
use Rattle.std.specs.Prelude.{◌≡◌, ℕ, Bool, true, false, ◌+◌, ◌-◌, ◌==◌, min, ◌≤◌, ◌<◌, List, length, Option, Some, None, slice_index}
use Rattle.std.specs.List.{list_any}
use Rattle.nv_calls.specs.declared.numbers.Syscall.{Syscall}
use Rattle.nv_calls.specs.declared.numbers.Syscall.TheVariants.{Write, Writev}
use Rattle.nv_calls.specs.Calls.{Request}
use Rattle.nv_calls.specs.Numbers.{syscall_of}
use Rattle.nv_kernel.specs.Serving.{request_arg}
use Rattle.nv_sockets.specs.declared.socket.Socket.{Socket}
use Rattle.nv_sockets.specs.declared.socket.Socket.TheVariants.{Fresh, Bound, Listening, Connected}
use Rattle.nv_sockets.specs.Sockets.{Net, socket_at, link_output, is_going}

-- the connections of which the bytes are there, by their numbers, and how many bytes that were written to each were let go
pub record Held : Type 0 where
  pub there : List ℕ
  pub gone : List ℕ

-- the connection of this number is there
abbrev pub is_there : List ℕ → ℕ → Bool
is_there there i = list_any (λ (n : ℕ). n == i) there

-- so many connections are there, and they are the first ones
pub record AllThere (there : List ℕ) (n : ℕ) : Type 0 where
  pub count : length there ≡ n
  pub each : (i : ℕ) → i < n → is_there there i ≡ true

-- Each connection that the guests haven't closed is there. Of one that isn't, all that was written to it was let go.
pub record Keeps (net : Net) (held : Held) : Type 0 where
  pub going : (i : ℕ) → is_going net i ≡ true → is_there held.there i ≡ true
  pub gone : (i : ℕ) → is_there held.there i ≡ false → slice_index held.gone i ≡ length (link_output net i)

-- The sockets; which connections are there; how many bytes that are written to each connection have memory, and for how many more that come over it memory was taken;
-- and how many connections have, and how many that wait.
pub record Buffered : Type 0 where
  pub net : Net
  pub held : Held
  pub buffers : List ℕ
  pub promised : List ℕ
  pub places : ℕ
  pub waits : ℕ

-- a connection that isn't closed has memory for so many bytes in all
abbrev pub HasMemory : Buffered → ℕ → ℕ → Type 0
HasMemory w i n = is_going w.net i ≡ true → n ≤ slice_index w.buffers i

-- All of the connections are there (`gone` has a number for each), with all that was written to them.
pub record IsWhole (w : Buffered) : Type 0 where
  pub there : length w.held.there ≡ length w.held.gone
  pub all : (i : ℕ) → slice_index w.held.gone i ≡ 0

-- there is memory for n more bytes of a connection, as far as they fit
abbrev pub HoldsMore : Buffered → ℕ → ℕ → Type 0
HoldsMore w i n = HasMemory w i (length (link_output w.net i) + min n (w.net.limit - length (link_output w.net i)))

abbrev pub CanWriteTo : Buffered → Option Socket → ℕ → Type 0
CanWriteTo w None n = Unit {0}
CanWriteTo w (Some Fresh) n = Unit {0}
CanWriteTo w (Some (Bound port)) n = Unit {0}
CanWriteTo w (Some (Listening port)) n = Unit {0}
CanWriteTo w (Some (Connected i)) n = HoldsMore w i n

-- there is memory for a write of n bytes to a descriptor
unfoldable pub CanWrite : Buffered → ℕ → ℕ → Type 0
CanWrite w fd n = CanWriteTo w (socket_at w.net fd) n

abbrev pub can_send : Syscall → Buffered → Request → Type 0
can_send Write w c = CanWrite w (request_arg c 0) (length c.payload)
can_send Writev w c = CanWrite w (request_arg c 0) (length c.payload)
can_send _ w c = Unit {0}

-- there is memory for what the call writes to a connection
abbrev pub CanSend : Buffered → Request → Type 0
CanSend w c = can_send (syscall_of c.nr) w c
