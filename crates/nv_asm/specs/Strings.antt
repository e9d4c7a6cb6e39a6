-- Texts in quotes, and comments, which begin outside of them.
use Rattle.std.specs.Prelude.{ℕ, Bool, true, false, List, [], ◌∷◌, Option, Some, None, if◌then◌else◌, ◌==◌, ◌+◌, option_map}
use Rattle.nv_asm.specs.declared.strings.Mark.{Mark}
use Rattle.nv_asm.specs.declared.strings.Mark.TheVariants.{Stands, Escapes, Ends, Wrong}
use Rattle.nv_asm.specs.declared.strings.Where.{Where}
use Rattle.nv_asm.specs.declared.strings.Where.TheVariants.{Outside, Inside, Escaped}

-- what a byte after a backslash stands for
abbrev pub escape : ℕ → Option ℕ
escape b = if b == 110 then Some 10 else (if b == 116 then Some 9 else (if b == 48 then Some 0 else (if b == 92 then Some 92 else (if b == 34 then Some 34 else None))))

-- what follows the closing quote: nothing
abbrev pub at_end : List ℕ → Option (List ℕ)
at_end [] = Some []
at_end (b ∷ bs) = None

abbrev pub escaped_mark : Option ℕ → Mark
escaped_mark (Some c) = Stands c
escaped_mark None = Wrong

-- what a byte is, after the opening quote or after a backslash
abbrev pub mark : Bool → ℕ → Mark
mark false b = if b == 92 then Escapes else (if b == 34 then Ends else Stands b)
mark true b = escaped_mark (escape b)

-- the bytes up to the closing quote, which must be the last byte; after a backslash or not
unfoldable pub quoted : Bool → List ℕ → Option (List ℕ)
quoted escaped [] = None
quoted escaped (b ∷ bs) = elim (mark escaped b) [
  | Stands c ↦ option_map (λ cs. c ∷ cs) (quoted false bs)
  | Escapes ↦ quoted true bs
  | Ends ↦ at_end bs
  | Wrong ↦ None
]

-- the bytes of a text in quotes
abbrev pub string : List ℕ → Option (List ℕ)
string [] = None
string (b ∷ bs) = if b == 34 then quoted false bs else None

-- where the next byte stands, if this one begins no comment
abbrev pub next : Where → ℕ → Option Where
next Outside b = if b == 35 then None else (if b == 34 then Some Inside else Some Outside)
next Inside b = if b == 92 then Some Escaped else (if b == 34 then Some Outside else Some Inside)
next Escaped b = Some Inside

-- how many bytes stand before the comment
unfoldable pub comment_place : Where → List ℕ → ℕ
comment_place w [] = 0
comment_place w (b ∷ bs) = elim (next w b) [ Some v ↦ 1 + comment_place v bs | None ↦ 0 ]
