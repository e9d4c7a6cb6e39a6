-- Lines of a head and of bytes in hexadecimal digits.
use Rattle.std.specs.Prelude.{ℕ, List, [], ◌∷◌, ◌++◌, ◌-◌, if◌then◌else◌, nat_le, codes}
use Rattle.std.specs.List.{onto_first, flat_map}
use Rattle.nv_bytes.specs.Numbers.{hex_of}

-- bytes by so many at once; n more fit into the first
unfoldable pub parts_after : ℕ → ℕ → List ℕ → List (List ℕ)
parts_after most n [] = []
parts_after most n (b ∷ bs) = if nat_le n 1 then (b ∷ []) ∷ parts_after most most bs else onto_first b (parts_after most (n - 1) bs)

abbrev pub parts : ℕ → List ℕ → List (List ℕ)
parts most bytes = parts_after most most bytes

abbrev pub line_with : List ℕ → List ℕ → List ℕ
line_with head bytes = head ++ (hex_of bytes ++ codes "\n")

-- a line for each 2,000 bytes
abbrev pub lines_with : List ℕ → List ℕ → List ℕ
lines_with head bytes = flat_map (line_with head) (parts 2000 bytes)

-- What was read and taken by no call, as comments: the bytes of a line that has begun, and then what is behind it.
abbrev pub held_text : List ℕ → List ℕ → List ℕ
held_text line held = lines_with (codes "# not taken: ") line ++ lines_with (codes "# not taken: ") held
