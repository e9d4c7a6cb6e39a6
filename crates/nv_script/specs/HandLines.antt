-- The line of one more planned length, behind the text of a script.
use Rattle.std.specs.Prelude.{ℕ, Bool, not, ◌&&◌, List, [], ◌∷◌, ◌++◌, codes, nat_lt, length}
use Rattle.nv_bytes.specs.Numbers.{decimal_of}
use Rattle.nv_script.specs.Entry.{is_hand}
use Rattle.nv_script.specs.Scripts.{Setup, has_hand}

-- without its newline
abbrev pub hand_line : ℕ → List ℕ
hand_line n = codes "hand " ++ decimal_of n

-- a script with these lengths to hand over at can have this one as well
abbrev pub can_plan : ℕ → List ℕ → Bool
can_plan n hands = is_hand n && (nat_lt (length hands) 8 && not (has_hand n hands))

-- one more length at which the leader hands over
abbrev pub planned_too : ℕ → Setup → Setup
planned_too n setup = record setup { hands = setup.hands ++ n ∷ [] }
