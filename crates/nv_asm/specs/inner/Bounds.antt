-- How many bytes a statement can have.
use Rattle.std.specs.Prelude.{ℕ, ◌+◌, ◌*◌}

-- the most that a statement has with so many bytes after its first word
abbrev pub most_of : ℕ → ℕ
most_of n = 1048580 + 4 * n
