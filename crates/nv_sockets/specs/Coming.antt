-- Clients that connect while a run goes on, and what they send.
use Rattle.std.specs.Prelude.{◌≡◌, ℕ, ◌+◌, ◌≤◌, ◌==◌, true, false, List, [], ◌∷◌, ◌++◌, length, Some, slice_index, if◌then◌else◌}
use Rattle.nv_sockets.specs.Sockets.{Net, is_going, with_inbox}
use Rattle.nv_sockets.specs.Reserved.{Buffered}

-- a connection that waits at its port, of which nothing has come
abbrev pub connected : Net → ℕ → Net
connected net port = record net {
  waiting = net.waiting ++ record { port = port; connection = length net.links } ∷ [];
  links = net.links ++ record { port = port; inbox = Some record { unread = []; over = false }; output = [] } ∷ [];
}

-- bytes that come over a connection; of one that the guests have closed they are lost
abbrev pub with_data : Net → ℕ → List ℕ → Net
with_data net i bytes = with_inbox net i (λ inbox. record inbox { unread = inbox.unread ++ bytes })

-- the client has sent all
abbrev pub ended : Net → ℕ → Net
ended net i = with_inbox net i (λ inbox. record inbox { over = true })

-- how many of the bytes that come over connection i come over connection j
abbrev pub came_over : ℕ → List ℕ → ℕ → ℕ
came_over i bytes j = if i == j then length bytes else 0

-- there is memory for n more bytes of what comes over a connection
abbrev pub HasInput : Buffered → ℕ → ℕ → Type 0
HasInput w i n = is_going w.net i ≡ true → n ≤ slice_index w.promised i

-- there is memory for n more connections
pub record HasPlaces (w : Buffered) (n : ℕ) : Type 0 where
  pub links : length w.net.links + n ≤ w.places
  pub waiting : length w.net.waiting + n ≤ w.waits
