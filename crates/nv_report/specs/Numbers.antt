-- Numbers in decimal.
use Rattle.std.specs.Prelude.{ℕ, List, ◌++◌, codes}
use Rattle.std.specs.Fmt.{decimal}

-- a number and a space
abbrev pub number_text : ℕ → List ℕ
number_text n = decimal n ++ codes " "
