-- The calls that a run's guests can make, by the form of its script.
use Rattle.std.specs.Prelude.{Bool, false, not, ◌&&◌, [], ◌∷◌, if◌then◌else◌}
use Rattle.nv_calls.specs.Calls.{Request}
use Rattle.nv_calls.specs.Numbers.{is_later}

-- a call of a number that isn't in the table
abbrev pub bare : Request → Request
bare c = record { tid = c.tid; nr = c.nr; args = 0 ∷ 0 ∷ 0 ∷ 0 ∷ 0 ∷ 0 ∷ []; bad = false; payload = [] }

-- a call where the later calls are in the table, or where they aren't
abbrev pub in_profile : Bool → Request → Request
in_profile polls c = if not polls && is_later c.nr then bare c else c
