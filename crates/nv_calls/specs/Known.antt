-- What is known of a list whose beginning may have been let go.
use Rattle.std.specs.Prelude.{ℕ, ◌+◌, List, min}

-- The whole list, how many of its items aren't there any more, and how long it may become with the memory that it has.
pub record Known (T : Type 0) : Type 0 where
  pub items : List T
  pub gone : ℕ
  pub most : ℕ

-- Where so many are gone and there is memory for so many: as many as there is memory for, and no more than a usize counts.
unfoldable pub most_of : ℕ → ℕ → ℕ
most_of gone capacity = min (gone + capacity) 18446744073709551615
