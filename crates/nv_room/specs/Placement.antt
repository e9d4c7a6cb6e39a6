-- Where the words of events stand in the table of n stations with eight lanes, each of c places of six words, and 2 c + 8 chunks of 64 words.
use Rattle.std.specs.Prelude.{ℕ, ◌+◌, ◌-◌, ◌*◌, ◌%◌, ◌<◌, ◌≤◌, List, take, drop, map, length, sum_by, nat_lt, slice_index, if◌then◌else◌}
use Rattle.nv_pool.specs.Chunks.{chunks_for}
use Rattle.nv_room.specs.Lanes.{Taken}
use Rattle.nv_room.specs.Logs.{lane, earlier}
pub use Rattle.nv_room.specs.Header.{header}
pub use Rattle.nv_room.specs.Logs.{Log}

abbrev pub pool_chunks : ℕ → ℕ
pool_chunks c = 2 * c + 8

unfoldable pub table_words : ℕ → ℕ → ℕ
table_words n c = 8 * c * 6 + 64 * pool_chunks c + header n

-- the chunks of an event: its first six words stand in a place
abbrev pub chunks : List ℕ → ℕ
chunks e = chunks_for (length e - 6)

-- those of the events before the event i, and from it on
unfoldable pub chunks_before : Log → ℕ → ℕ
chunks_before log i = sum_by chunks (take i log)

unfoldable pub chunks_from : Log → ℕ → ℕ
chunks_from log i = sum_by chunks (drop i log)

-- the word j of the k-th place of a lane
unfoldable pub slot : ℕ → ℕ → ℕ → ℕ → ℕ → ℕ
slot n c lane k j = (lane * c + k) * 6 + j + header n

-- the word j, from the sixth on, of an event whose first chunk is this one
unfoldable pub pool_word : ℕ → ℕ → ℕ → ℕ → ℕ
pool_word n c first j = (64 * first + (j - 6)) % (64 * pool_chunks c) + (8 * c * 6 + header n)

abbrev pub spot : ℕ → ℕ → ℕ → ℕ → ℕ → ℕ → ℕ
spot n c lane k first j = if nat_lt j 6 then slot n c lane k j else pool_word n c first j

-- the word j of the event number i of the log
unfoldable pub word_place : ℕ → ℕ → Log → ℕ → ℕ → ℕ
word_place n c log i j = spot n c (lane log i) (earlier log i % c) (chunks_before log i % pool_chunks c) j

-- an event may be written after the log while those from f on are kept
pub record Fits (c : ℕ) (log : Log) (e : List ℕ) (f : ℕ) : Type 0 where
  pub window : length log < f + c
  pub chunks_are_few : chunks_from log f + chunks e ≤ pool_chunks c

-- the word j of the next place of a lane, by the lanes that are taken so far
abbrev pub next_slot : ℕ → ℕ → Taken → ℕ → ℕ → ℕ
next_slot n c taken lane j = slot n c lane (slice_index taken.counts lane % c) j

-- as many bytes as the words after the sixth have: their chunks are the event's
abbrev pub payload_size : List ℕ → ℕ
payload_size e = 8 * (length e - 6)

abbrev pub sizes : Log → List ℕ
sizes log = map payload_size log
