-- Where each line's statement stands.
use Rattle.std.specs.Prelude.{ℕ, ◌+◌, ◌*◌, List, [], ◌∷◌, length, take, Option, Result, Ok, Err}
use Rattle.std.specs.Int.{next_multiple_of}
use Rattle.nv_bytes.specs.Lines.{Parts, line_of}
use Rattle.nv_asm.specs.declared.fault.AsmCause.{AsmCause}
use Rattle.nv_asm.specs.declared.fault.AsmCause.TheVariants as cause
use Rattle.nv_asm.specs.declared.place.Section.{Section}
use Rattle.nv_asm.specs.declared.place.Section.TheVariants as section
use Rattle.nv_asm.specs.declared.place.Place.{Place}
use Rattle.nv_asm.specs.declared.place.Label.{Label}
use Rattle.nv_asm.specs.declared.place.Reached.{Reached}
use Rattle.nv_asm.specs.declared.strings.Where.TheVariants.{Outside}
use Rattle.nv_asm.specs.Strings.{comment_place}
use Rattle.nv_asm.specs.Statements.{Code, Fixed, Branch, Jump, Load, Statement, Blank, Text, Data, Bytes, Zero, Words, Instruction, OffInstruction, statement}

-- how many bytes the current section has
abbrev pub here_by : Section → Reached → ℕ
here_by section.Text r = r.text_len
here_by section.Data r = r.data_len

abbrev pub here : Reached → ℕ
here r = here_by r.section r

abbrev pub filled : Section → ℕ → Reached → Reached
filled section.Text n r = record r { text_len = n }
filled section.Data n r = record r { data_len = n }

-- an instruction stands in the text section alone
abbrev pub among_data : Statement → Result Statement AsmCause
among_data (Instruction c) = Err cause.Operand
among_data OffInstruction = Err cause.Operand
among_data s = Ok s

abbrev pub in_section : Section → Result Statement AsmCause → Result Statement AsmCause
in_section section.Data (Ok s) = among_data s
in_section _ r = r

-- a statement that can't be read is passed over
abbrev pub or_blank : Result Statement AsmCause → Statement
or_blank (Ok s) = s
or_blank (Err c) = Blank

abbrev pub code_size : Code → ℕ
code_size (Fixed words) = 4 * length words
code_size (Branch o rs1 rs2 target) = 4
code_size (Jump rd target) = 4
code_size (Load rd target) = 8

-- how many bytes a statement has
abbrev pub size : Statement → ℕ
size (Bytes bs) = length bs
size (Zero n) = n
size (Words ws) = 4 * length ws
size (Instruction c) = code_size c
size _ = 0

-- where a statement begins in a section of n bytes
abbrev pub begin : Statement → ℕ → ℕ
begin (Words ws) n = next_multiple_of n 4
begin (Instruction c) n = next_multiple_of n 4
begin _ n = n

-- how far the text has come after a statement
abbrev pub past : Statement → Reached → Reached
past Text r = record r { section = section.Text }
past Data r = record r { section = section.Data }
past s r = filled r.section (begin s (here r) + size s) r

-- a line: how many are before it, its label, its statement or why it has none, and how far the text had come before it
pub record Placed : Type 0 where
  pub line : ℕ
  pub label : Option (List ℕ)
  pub read : Result Statement AsmCause
  pub before : Reached

abbrev pub stated : Placed → Statement
stated p = or_blank p.read

abbrev pub place : Placed → Place
place p = record { section = p.before.section; offset = begin (stated p) (here p.before) }

abbrev pub after : Placed → Reached
after p = past (stated p) p.before

-- a line without its comment
unfoldable pub line_parts : List ℕ → Parts
line_parts line = line_of (take (comment_place Outside line) line)

abbrev pub placed_parts : ℕ → Reached → Parts → Placed
placed_parts n before parts = record { line = n; label = parts.label; read = in_section before.section (statement parts.word parts.rest); before = before }

unfoldable pub placed_line : ℕ → Reached → List ℕ → Placed
placed_line n before line = placed_parts n before (line_parts line)

-- lines after n others
unfoldable pub placed : ℕ → Reached → List (List ℕ) → List Placed
placed n before [] = []
placed n before (line ∷ lines) = placed_line n before line ∷ placed (n + 1) (after (placed_line n before line)) lines

abbrev pub nothing_reached : Reached
nothing_reached = record { section = section.Text; text_len = 0; data_len = 0 }

-- how far the text has come after its last line
unfoldable pub ended : Reached → List Placed → Reached
ended before [] = before
ended before (p ∷ ps) = ended (after p) ps

-- a line's label and where it is
abbrev pub marked : Placed → Option (List ℕ) × Label
marked p = (p.label, record { line = p.line; place = place p })
