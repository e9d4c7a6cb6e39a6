-- The owner word: which station holds the kernel or held it last, how many stations are open, and, where it is not held, at how many events.
use Rattle.std.specs.Prelude.{ℕ, zero, suc, ◌+◌, ◌*◌, ◌/◌, ◌%◌, ◌==◌, ◌&&◌, Bool, true, false, List, [], ◌∷◌, Option, Some, if◌then◌else◌}

-- a cursor word that says that the station has left; it is above every count
abbrev pub GONE : ℕ
GONE = 18446744073709551615

pub data Phase : Type 0 where
  held : Phase
  free : Phase
  closed : Phase

-- of the station s, which is below 16, with o open stations, which are at most 16
abbrev pub owner_word : Phase → ℕ → ℕ → ℕ → ℕ
owner_word held s o n = (o * 16 + s) * 4 + 1
owner_word free s o n = ((n * 32 + o) * 16 + s) * 4
owner_word closed s o n = ((n * 32 + o) * 16 + s) * 4 + 2

-- the number that the word carries, which is 0 where it is held
abbrev pub owner_at : ℕ → ℕ
owner_at r = r / 2048

-- how many stations are open
abbrev pub opened_at : ℕ → ℕ
opened_at r = r / 64 % 32

abbrev pub is_held : ℕ → Bool
is_held r = r % 4 == 1

abbrev pub is_free : ℕ → Bool
is_free r = r % 4 == 0

abbrev pub is_closed : ℕ → Bool
is_closed r = r % 4 == 2

-- all stations below s are marked gone
abbrev pub lower_marked : ℕ → List ℕ → Bool
lower_marked zero fs = true
lower_marked (suc s) [] = false
lower_marked (suc s) (f ∷ fs) = (f == GONE) && lower_marked s fs

-- a look at the owner word is noted where it is free and all lower stations are marked gone
abbrev pub is_noted : ℕ → List ℕ → ℕ → Bool
is_noted station floors r = is_free r && lower_marked station floors

-- at how many events a noted word is free
abbrev pub note_of : ℕ → ℕ
note_of r = owner_at r

-- the note of a free owner after a look at its word
abbrev pub note_after : Option ℕ → ℕ → List ℕ → ℕ → Option ℕ
note_after freed station floors r = if is_noted station floors r then Some (note_of r) else freed
