-- The lanes of a log of spelt events.
use Rattle.std.specs.Prelude.{ℕ, List, map}
use Rattle.nv_calls.specs.Calls.{Entry}
use Rattle.nv_words.specs.Read.{event_of}
use Rattle.nv_room.specs.Lanes.{Taken, taken_after, lane_at, earlier_at}

-- of each event, its words
abbrev pub Log : Type 0
Log = List (List ℕ)

abbrev pub entries : Log → List Entry
entries log = map event_of log

-- which lanes are taken after a log
abbrev pub lanes_after : Log → Taken
lanes_after log = taken_after (entries log)

-- the lane of the event i, and how many earlier events stand there
abbrev pub lane : Log → ℕ → ℕ
lane log i = lane_at (entries log) i

abbrev pub earlier : Log → ℕ → ℕ
earlier log i = earlier_at (entries log) i
