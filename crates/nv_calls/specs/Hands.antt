-- Lengths of the log, at which leaders give up the lead.
use Rattle.std.specs.Prelude.{ℕ, Bool, true, false, ◌||◌, ◌==◌, List, [], ◌∷◌, ◌++◌}

-- whether this is one of them
abbrev pub has : List ℕ → ℕ → Bool
has [] n = false
has (k ∷ ks) n = (k == n) || has ks n

-- them, and this one as well where the answer is that the lead is to be given up there
abbrev pub with_hand : Bool → ℕ → List ℕ → List ℕ
with_hand true n lengths = lengths ++ n ∷ []
with_hand false n lengths = lengths
