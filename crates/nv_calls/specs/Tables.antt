-- What is known of a list of which some items may have been let go.
use Rattle.std.specs.Prelude.{◌≡◌, ℕ, ◌+◌, ◌-◌, ◌<◌, List, length, min, slice_index, slice_index_or, All, AllPairs}

-- The whole list, the numbers of those items that are there, ascending, and how long it may become with the memory that it has.
pub record Sparse (T : Type 0) : Type 0 where
  pub items : List T
  pub numbers : List ℕ
  pub most : ℕ

-- Each number is below those after it, and is one of so many.
pub record Ascends (count : ℕ) (numbers : List ℕ) : Type 0 where
  pub ordered : AllPairs (λ a b. a < b) numbers
  pub inside : All (λ n. n < count) numbers

-- Of these items, those with these numbers are there, one by one.
pub record Keeps {T : Type 0} (items : List T) (numbers : List ℕ) (kept : List T) : Type 0 where
  pub as_many : length kept ≡ length numbers
  pub each : (p : ℕ) (x : T) → p < length numbers → slice_index_or kept p x ≡ slice_index_or items (slice_index numbers p) x

-- Where so many of so many are there, and there is memory for so many numbers and so many items: as many as there is memory for beside
-- those that are gone, and no more than a usize counts.
unfoldable pub table_most : ℕ → ℕ → ℕ → ℕ → ℕ
table_most count there places room = min ((count - there) + min places room) 18446744073709551615
