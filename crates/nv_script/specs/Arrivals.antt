-- What comes from outside, as lists.
use Rattle.std.specs.Prelude.{◌<◌, ℕ, Bool, true, ◌&&◌, List, nat_lt, nat_le, ◌^◌, length, get_or}

pub data Arrival : Type 0 where
  -- bytes for descriptor 0
  Input : List ℕ → Arrival
  -- nothing more comes for descriptor 0
  InputEnd : Arrival
  -- no more clients connect
  ClientsEnd : Arrival
  -- a client connects to this port
  Connect : ℕ → Arrival
  -- bytes from this client
  Data : ℕ → List ℕ → Arrival
  -- this client has sent all
  End : ℕ → Arrival
  -- it is so many seconds after the beginning of 1970, and nanoseconds after them
  Time : ℕ → ℕ → Arrival

-- 1 to 2,000 bytes
abbrev pub is_sized : List ℕ → Bool
is_sized bytes = nat_lt 0 (length bytes) && nat_le (length bytes) 2000

-- 1 to 65,535
abbrev pub is_port : ℕ → Bool
is_port n = nat_le 1 n && nat_le n 65535

-- less than a second
abbrev pub is_nanos : ℕ → Bool
is_nanos n = nat_le n 999999999

-- the limits that an arrival is within by itself
unfoldable pub is_arrival : Arrival → Bool
is_arrival (Input bytes) = is_sized bytes
is_arrival InputEnd = true
is_arrival ClientsEnd = true
is_arrival (Connect port) = is_port port
is_arrival (Data n bytes) = nat_lt n (2 ^ 32) && is_sized bytes
is_arrival (End n) = nat_lt n (2 ^ 32)
is_arrival (Time seconds nanos) = nat_lt seconds (2 ^ 32) && is_nanos nanos

abbrev pub AreBytes : List ℕ → Type 0
AreBytes bytes = (i : ℕ) → get_or bytes i 0 < 256

-- what it brings are bytes
abbrev pub BringsBytes : Arrival → Type 0
BringsBytes (Input bytes) = AreBytes bytes
BringsBytes (Data n bytes) = AreBytes bytes
BringsBytes _ = Unit
