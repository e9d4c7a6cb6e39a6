-- Inboxes of clients that will connect.
use Rattle.std.specs.Prelude.{◌≡◌, ℕ, false, List, [], ◌∷◌}
use Rattle.nv_sockets.specs.Inboxes.{Room}

-- nothing has come
abbrev pub IsNew : Room → Type 0
IsNew room = room.inbox ≡ record { unread = []; over = false }

abbrev pub AreNew : List Room → Type 0
AreNew [] = Unit {0}
AreNew (room ∷ rooms) = IsNew room × AreNew rooms

-- for how many bytes memory was taken
abbrev pub promised_by : Room → ℕ
promised_by room = room.promised
