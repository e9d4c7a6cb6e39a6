-- The numbers of the first threads.
use Rattle.std.specs.Prelude.{ℕ, zero, suc, ◌+◌, List, [], ◌∷◌, ◌++◌}
use Rattle.nv_calls.specs.Limits.{FIRST_THREAD}

-- so many from the first on
abbrev pub firsts : ℕ → List ℕ
firsts zero = []
firsts (suc n) = firsts n ++ (FIRST_THREAD + n) ∷ []
