-- What stands in a room's table before the places: the owner, the head and a cursor a station, each on a cache line of its own (64 bytes, 8 words).
use Rattle.std.specs.Prelude.{ℕ, ◌+◌, ◌*◌, ◌<◌, ◌≤◌}

abbrev pub owner_index : ℕ
owner_index = 0

abbrev pub head_index : ℕ
head_index = 8

abbrev pub cursor_index : ℕ → ℕ
cursor_index s = 8 * (s + 2)

-- of n stations
abbrev pub header : ℕ → ℕ
header n = 8 * (n + 2)

-- no two of them, and none of them and a place, stand within 64 bytes
pub record HasOwnLines (n : ℕ) : Type 0 where
  pub owner : owner_index + 8 ≤ head_index
  pub head : (s : ℕ) → head_index + 8 ≤ cursor_index s
  pub cursors : (s t : ℕ) → s < t → cursor_index s + 8 ≤ cursor_index t
  pub last : (s : ℕ) → s < n → cursor_index s + 8 ≤ header n
