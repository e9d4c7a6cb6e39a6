-- How many stations a room has.
use Rattle.std.specs.Prelude.{ℕ, ◌+◌, Bool, true, false, List, length}

-- one for each version, and one for each hand-over: at the planned lengths, or on demand eight in all
abbrev pub stations_for : ℕ → List ℕ → Bool → ℕ
stations_for versions planned false = versions + length planned
stations_for versions planned true = versions + 8
