-- The parts of a log that a version has led.
use Rattle.std.specs.Prelude.{◌≡◌, ℕ, ◌+◌, ◌≤◌, List, [], ◌∷◌, Some, slice_get}

-- how many a version leads at most: one, and one more for each planned length
abbrev pub MOST_SPANS : ℕ
MOST_SPANS = 9

-- the last one has one event more
abbrev pub grown : List (ℕ × ℕ) → List (ℕ × ℕ)
grown [] = []
grown (span ∷ []) = (span.0, span.1 + 1) ∷ []
grown (span ∷ next ∷ spans) = span ∷ grown (next ∷ spans)

-- each ends at this event or before
pub record EndBy (n : ℕ) (spans : List (ℕ × ℕ)) : Type 0 where
  pub each : (i : ℕ) (span : ℕ × ℕ) → slice_get spans i ≡ Some span → span.1 ≤ n
