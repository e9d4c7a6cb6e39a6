-- What comes over a connection, with the memory that was taken for it.
use Rattle.std.specs.Prelude.{ℕ, true, List, ◌++◌, drop, Option, Some, None, option_map}
use Rattle.nv_sockets.specs.Sockets.{Inbox}

-- what has come and isn't read yet, and for how many bytes more memory was taken
pub record Room : Type 0 where
  pub inbox : Inbox
  pub promised : ℕ

-- of a connection, until the guests close it
abbrev pub inbox_in : Option Room → Option Inbox
inbox_in room = option_map (λ (r : Room). r.inbox) room

-- nothing where it is closed
abbrev pub promised_in : Option Room → ℕ
promised_in None = 0
promised_in (Some room) = room.promised

-- more has come
abbrev pub with_more : List ℕ → Inbox → Inbox
with_more bytes inbox = record inbox { unread = inbox.unread ++ bytes }

-- so many bytes are read
abbrev pub with_less : ℕ → Inbox → Inbox
with_less n inbox = record inbox { unread = drop n inbox.unread }

-- the client has sent all
abbrev pub with_end : Inbox → Inbox
with_end inbox = record inbox { over = true }
