-- Plain input as what comes, one after another.
use Rattle.std.specs.Prelude.{ℕ, ◌||◌, List, [], ◌∷◌, if◌then◌else◌, ◌==◌, nat_le, ◌-◌, map}
use Rattle.std.specs.List.{onto_first, flat_map}
use Rattle.nv_script.specs.Arrivals.{Arrival, Input}

-- bytes cut after each newline, and wherever a piece has as many as it may; n more fit into the first
unfoldable pub cut_after : ℕ → ℕ → List ℕ → List (List ℕ)
cut_after most n [] = []
cut_after most n (b ∷ bs) = if (b == 10) || nat_le n 1 then (b ∷ []) ∷ cut_after most most bs else onto_first b (cut_after most (n - 1) bs)

-- what a read gave, in pieces
abbrev pub pieces : ℕ → List ℕ → List (List ℕ)
pieces most bytes = cut_after most most bytes

-- what comes by reads that gave these bytes
abbrev pub input_of : ℕ → List (List ℕ) → List Arrival
input_of most reads = map Input (flat_map (pieces most) reads)
