-- Where leaders hand over.
use Rattle.std.specs.Prelude.{ℕ, List}
use Rattle.nv_live.specs.declared.hand_overs.HandOvers.{HandOvers}

-- the script's lengths, and then those of operators' words
abbrev pub lengths_of : HandOvers → List ℕ
lengths_of hand_overs = hand_overs.lengths.items
