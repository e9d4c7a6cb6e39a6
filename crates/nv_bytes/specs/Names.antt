-- Names with the places that they are defined at, and the least faulty line, over any kind of place and of cause.
use Rattle.std.specs.Prelude.{ℕ, ◌+◌, List, [], ◌∷◌, Option, Some, None, if◌then◌else◌, map, bytes_eq}
use Rattle.std.specs.Option.{option_or}
use denote.Ref.{Bor}

-- the first definition of a name in a list
unfoldable pub defined : {D : Type 0} → List (List ℕ × D) → List ℕ → Option D
defined [] name = None
defined (d ∷ ds) name = if bytes_eq name d.0 then Some d.1 else defined ds name

abbrev pub defining : {D : Type 0} → Option (List ℕ) → D → List (List ℕ × D) → List (List ℕ × D)
defining None d ds = ds
defining (Some name) d ds = (name, d) ∷ ds

-- each name that a line defines, in order, from the lines' labels and their places
unfoldable pub definitions : {D : Type 0} → List (Option (List ℕ) × D) → List (List ℕ × D)
definitions [] = []
definitions (l ∷ ls) = defining l.0 l.1 (definitions ls)

-- the least line with a cause, counted from n
abbrev pub or_later : {C : Type 0} → ℕ → Option C → Option (ℕ × C) → Option (ℕ × C)
or_later n (Some c) later = Some (n, c)
or_later n None later = later

unfoldable pub first_fault : {C : Type 0} → ℕ → List (Option C) → Option (ℕ × C)
first_fault n [] = None
first_fault n (c ∷ cs) = or_later n c (first_fault (n + 1) cs)

-- what a name is known as, once another has its definition
abbrev pub knowing : {D : Type 0} → List (List ℕ × D) → List ℕ → D → List ℕ → Option D
knowing names name d other = option_or (defined names other) (if bytes_eq other name then Some d else None)

-- the names of a map, each with its definition
abbrev pub named : {D : Type 0} → List (Bor (List ℕ) × D) → List (List ℕ × D)
named entries = map (λ e. (e.0.now, e.1)) entries
