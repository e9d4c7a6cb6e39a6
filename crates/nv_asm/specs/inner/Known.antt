-- What the first pass tells.
use Rattle.std.specs.Prelude.{ℕ, List, ◌<◌, ◌^◌, Option, IfSome}
use Rattle.std.specs.Option.{option_or}
use Rattle.nv_bytes.specs.Names.{defined}
use Rattle.nv_asm.specs.declared.place.Label.{Label}
use Rattle.nv_asm.specs.Assembled.{Whole}

abbrev pub known : List (List ℕ × Label) → ℕ → Whole
known names text_len = record { find = defined names; text_len = text_len }

-- every place is small enough to count with
pub record IsWithin (names : List (List ℕ × Label)) (text_len : ℕ) : Type 0 where
  pub text : text_len < 2 ^ 120
  pub places : (name : List ℕ) → IfSome (defined names name) (λ l. l.place.offset < 2 ^ 121)

-- a name's definition among those before, else among the rest
abbrev pub defined_among : List (List ℕ × Label) → List (List ℕ × Label) → List ℕ → Option Label
defined_among before rest name = option_or (defined before name) (defined rest name)

-- the places of the names are below a bound
abbrev pub IsBelow : ℕ → List (List ℕ × Label) → Type 0
IsBelow most names = (name : List ℕ) → IfSome (defined names name) (λ l. l.place.offset < most)
