-- The lengths of the log at which leads give up the lead: those that are planned, and others, which are asked for.
use Rattle.std.specs.Prelude.{ℕ, ◌+◌, Bool, ◌&&◌, not, nat_lt, List, [], ◌∷◌, if◌then◌else◌}
use Rattle.nv_calls.specs.Hands.{has, with_hand}
use Rattle.nv_room.specs.declared.view.Span.{Span}

-- how many of these numbers are below n
abbrev pub below : List ℕ → ℕ → ℕ
below [] n = 0
below (k ∷ ks) n = (if nat_lt k n then 1 else 0) + below ks n

-- a span with an event ended with a hand-over, at a length that isn't planned: there it was asked for
abbrev pub asked_at : List ℕ → Span → Bool
asked_at planned x = x.handed && (nat_lt x.from x.to && not (has planned x.to))

abbrev pub asked_in : List ℕ → List Span → List ℕ
asked_in planned [] = []
asked_in planned (x ∷ xs) = if asked_at planned x then x.to ∷ asked_in planned xs else asked_in planned xs

-- these lengths, and this one as well unless it is planned
abbrev pub asked_then : List ℕ → ℕ → List ℕ → List ℕ
asked_then planned n lengths = with_hand (not (has planned n)) n lengths
