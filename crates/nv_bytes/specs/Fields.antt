-- The fields of a line, which single spaces separate.
use Rattle.std.specs.Prelude.{ℕ, Bool, not, List, [], ◌∷◌, Option, Some, None, ◌==◌}
use Rattle.std.specs.List.{slice_split}
use Rattle.nv_bytes.specs.Lines.{prefix, rest_after}

abbrev pub is_space : ℕ → Bool
is_space b = b == 32

abbrev pub is_not_space : ℕ → Bool
is_not_space b = not (is_space b)

abbrev pub first_word : List ℕ → List ℕ
first_word line = prefix is_not_space line

abbrev pub without_first : List ℕ → Option (List ℕ)
without_first [] = None
without_first (b ∷ bs) = Some bs

-- the rest after the first space, if there is one
abbrev pub rest_of : List ℕ → Option (List ℕ)
rest_of line = without_first (rest_after is_not_space line)

unfoldable pub fields : List ℕ → List (List ℕ)
fields line = slice_split is_space line
