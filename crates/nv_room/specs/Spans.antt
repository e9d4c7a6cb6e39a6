-- The stretches of the log that versions led, each at a station.
use Rattle.std.specs.Prelude.{◌≡◌, ◌≢◌, ℕ, ◌+◌, ◌<◌, ◌≤◌, Bool, true, false, ◌==◌, List, [], ◌∷◌, ◌++◌, length, take}
use mathlib.Core.Option.{some}
use lib.ListN.{get_elem?}
use Rattle.nv_words.specs.Spelling.{flag_bit}
use Rattle.nv_room.specs.declared.view.Span.{Span}

-- the station s of the version v
abbrev pub span : ℕ → ℕ → ℕ → ℕ → Span
span s v a b = record { station = s; version = v; from = a; to = b; handed = false }

-- from a to b, each span beginning where the one before it ends
abbrev pub Tiles : ℕ → List Span → ℕ → Type 0
Tiles a [] b = a ≡ b
Tiles a (x ∷ xs) b = (x.from ≡ a) × (x.from ≤ x.to) × Tiles x.to xs b

-- in order of station, no station twice
abbrev pub Rising : ℕ → List Span → Type 0
Rising low [] = Unit {0}
Rising low (x ∷ xs) = (low ≤ x.station) × Rising (x.station + 1) xs

abbrev pub kept_if : Bool → Span → List Span → List Span
kept_if true x xs = x ∷ xs
kept_if false x xs = xs

-- those of which this number is k
abbrev pub spans_with : (Span → ℕ) → ℕ → List Span → List Span
spans_with number k [] = []
spans_with number k (x ∷ xs) = kept_if (number x == k) x (spans_with number k xs)

abbrev pub of_station : ℕ → List Span → List Span
of_station s xs = spans_with (λ (x : Span). x.station) s xs

abbrev pub of_version : ℕ → List Span → List Span
of_version v xs = spans_with (λ (x : Span). x.version) v xs

-- the last span ends one event later
abbrev pub spans_grown : List Span → List Span
spans_grown [] = []
spans_grown (x ∷ []) = (record x { to = x.to + 1 }) ∷ []
spans_grown (x ∷ y ∷ ys) = x ∷ spans_grown (y ∷ ys)

-- the last span ended with a hand-over
abbrev pub handed_on : List Span → List Span
handed_on [] = []
handed_on (x ∷ []) = (record x { handed = true }) ∷ []
handed_on (x ∷ y ∷ ys) = x ∷ handed_on (y ∷ ys)

-- the last span has an event
abbrev pub LastHasEvent : List Span → Type 0
LastHasEvent spans = (xs : List Span) × (x : Span) × (spans ≡ xs ++ x ∷ []) × (x.from < x.to)

-- a seat that has left had seen no more, and read no more, than stood before the span of a later station began
abbrev pub Before : List Span → ℕ → List (List ℕ) → List ℕ → Type 0
Before spans station seen read = (i : ℕ) (x : Span) → get_elem? spans i ≡ some x → station < x.station → (length seen ≤ x.from) × (0 < length read → length seen < x.from)

-- Which version each open station has, from the first station on

-- the version's last station
pub record IsLastStation (seating : List ℕ) (version station : ℕ) : Type 0 where
  pub has : get_elem? seating station ≡ some version
  pub none_later : (t : ℕ) → station < t → get_elem? seating t ≢ some version

-- a span that ended with a hand-over opened the station `next` for its version, which had no later one
abbrev pub Opens : ℕ → List ℕ → Span → Type 0
Opens next seating x = IsLastStation (take next seating) x.version x.station × (get_elem? seating next ≡ some x.version)

-- the stations from `next` on were opened by these spans, in their order
abbrev pub Opened : ℕ → List ℕ → List Span → Type 0
Opened next seating [] = next ≡ length seating
Opened next seating (x ∷ xs) = (x.handed ≡ true → Opens next seating x) × Opened (next + flag_bit x.handed) seating xs
