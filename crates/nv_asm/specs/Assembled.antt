-- What an assembler text means: its program, or its least faulty line with the first cause there.
use Rattle.std.specs.Prelude.{ℕ, Bool, true, false, not, ◌&&◌, List, [], ◌∷◌, ◌++◌, length, map, flat_map, replicate, Option, Some, None, Result, Ok, Err, is_none, option_map, unwrap_or, if◌then◌else◌, ◌==◌, nat_lt, nat_le, ◌+◌, ◌-◌, ◌%◌, ◌^◌, ℤ, pos, ◌-ℤ◌}
use Rattle.std.specs.List.{list_any}
use Rattle.std.specs.Int.{next_multiple_of, w32, to_le_bytes}
use Rattle.nv_isa.specs.declared.op.Op.TheVariants as op
use Rattle.nv_isa.specs.Spelling.{encoded}
use Rattle.nv_elf.specs.Elf.{Range, Executable}
use Rattle.nv_bytes.specs.Lines.{lines, line_number}
use Rattle.nv_bytes.specs.Names.{defined, definitions, first_fault}
use Rattle.nv_asm.specs.declared.fault.AsmCause.{AsmCause}
use Rattle.nv_asm.specs.declared.fault.AsmCause.TheVariants as cause
use Rattle.nv_asm.specs.declared.fault.AsmFault.{AsmFault}
use Rattle.nv_asm.specs.declared.fault.AsmFault.TheVariants as fault
use Rattle.nv_asm.specs.declared.place.Section.{Section}
use Rattle.nv_asm.specs.declared.place.Section.TheVariants as section
use Rattle.nv_asm.specs.declared.place.Place.{Place}
use Rattle.nv_asm.specs.declared.place.Label.{Label}
use Rattle.nv_asm.specs.declared.place.Reached.{Reached}
use Rattle.nv_asm.specs.Statements.{Word, Value, Address, Code, Fixed, Branch, Jump, Load, Statement, Bytes, Zero, Words, Entry, Instruction, OffInstruction, OffData, OffWords, insn, loading}
use Rattle.nv_asm.specs.Places.{here, Placed, stated, place, after, placed, nothing_reached, ended, marked, begin}

-- what a line needs of all others: where each label is first defined, and how long the text section is
pub record Whole : Type 0 where
  pub find : List ℕ → Option Label
  pub text_len : ℕ

-- where the sections begin
abbrev pub text_base : ℕ
text_base = 0x10000

abbrev pub data_base : ℕ → ℕ
data_base text_len = next_multiple_of (text_base + text_len) 4096

abbrev pub base : ℕ → Section → ℕ
base text_len section.Text = text_base
base text_len section.Data = data_base text_len

unfoldable pub address : ℕ → Place → ℕ
address text_len p = base text_len p.section + p.offset

-- the address of a label that is defined
unfoldable pub address_of : Whole → List ℕ → ℕ
address_of w name = unwrap_or (option_map (λ (l : Label). address w.text_len l.place) (w.find name)) 0

-- ---- labels

abbrev pub is_undefined : Whole → List ℕ → Bool
is_undefined w name = is_none (w.find name)

-- a whole instruction's place in the text section
abbrev pub is_entry_place : ℕ → Place → Bool
is_entry_place text_len p = elim p.section [ section.Text ↦ (p.offset % 4 == 0) && nat_le (p.offset + 4) text_len | section.Data ↦ false ]

abbrev pub is_entry : ℕ → Option Label → Bool
is_entry text_len None = false
is_entry text_len (Some l) = is_entry_place text_len l.place

abbrev pub word_lacks : Whole → Word → Bool
word_lacks w (Value n) = false
word_lacks w (Address name) = is_undefined w name

abbrev pub code_lacks : Whole → Code → Bool
code_lacks w (Fixed words) = false
code_lacks w (Branch o rs1 rs2 target) = is_undefined w target
code_lacks w (Jump rd target) = is_undefined w target
code_lacks w (Load rd target) = is_undefined w target

-- some label isn't defined, or isn't where an entry may be
unfoldable pub lacks : Whole → Statement → Bool
lacks w (Words ws) = list_any (word_lacks w) ws
lacks w (OffWords ws) = list_any (word_lacks w) ws
lacks w (Entry name) = not (is_entry w.text_len (w.find name))
lacks w (Instruction c) = code_lacks w c
lacks w _ = false

-- ---- bytes

-- the distance of a branch or a jump, where it is even and from -most to most - 2
unfoldable pub distance : ℕ → ℕ → ℕ → Option ℤ
distance most at target = if nat_le at (target + most) && nat_le (target + 2) (at + most) && ((at + target) % 2 == 0) then Some (pos target -ℤ pos at) else None

abbrev pub word_value : Whole → Word → ℕ
word_value w (Value n) = n
word_value w (Address name) = address_of w name % 2 ^ 32

-- the words of instructions that begin at an address, where distances are in their range
abbrev pub code_words : Whole → ℕ → Code → Option (List ℕ)
code_words w at (Fixed words) = Some words
code_words w at (Branch o rs1 rs2 target) = option_map (λ z. encoded (insn o 0 rs1 rs2 z) ∷ []) (distance 4096 at (address_of w target))
code_words w at (Jump rd target) = option_map (λ z. encoded (insn op.Jal rd 0 0 z) ∷ []) (distance 1048576 at (address_of w target))
code_words w at (Load rd target) = Some (loading rd (address_of w target % 2 ^ 32))

abbrev pub le_words : List ℕ → List ℕ
le_words words = flat_map (to_le_bytes w32) words

-- the bytes of a statement that begins at an address, where its numbers and distances are in their range
unfoldable pub content : Whole → ℕ → Statement → Option (List ℕ)
content w at (Bytes bs) = Some bs
content w at (Zero n) = Some (replicate n 0)
content w at (Words ws) = Some (le_words (map (word_value w) ws))
content w at (Instruction c) = option_map le_words (code_words w at c)
content w at OffInstruction = None
content w at OffData = None
content w at (OffWords ws) = None
content w at _ = Some []

-- ---- lines

abbrev pub is_earlier : ℕ → Option Label → Bool
is_earlier n None = false
is_earlier n (Some l) = nat_lt l.line n

-- the label of a line is defined on an earlier one
abbrev pub is_twice : Whole → ℕ → Option (List ℕ) → Bool
is_twice w n None = false
is_twice w n (Some name) = is_earlier n (w.find name)

-- the sections pass 1,048,576 bytes
abbrev pub is_long : Reached → Bool
is_long r = nat_lt 1048576 (r.text_len + r.data_len)

-- zeros up to where the statement begins
abbrev pub padding_before : Placed → List ℕ
padding_before p = replicate (begin (stated p) (here p.before) - here p.before) 0

abbrev pub padded : Placed → Option (List ℕ) → Result (List ℕ) AsmCause
padded p None = Err cause.Range
padded p (Some bytes) = if is_long (after p) then Err cause.Range else Ok (padding_before p ++ bytes)

abbrev pub laid_by : Whole → Placed → Result Statement AsmCause → Result (List ℕ) AsmCause
laid_by w p (Err c) = Err c
laid_by w p (Ok s) = if lacks w s then Err cause.Label else padded p (content w (address w.text_len (place p)) s)

-- the bytes that a line adds to its section, or the first cause that it is faulty
unfoldable pub laid : Whole → Placed → Result (List ℕ) AsmCause
laid w p = if is_twice w p.line p.label then Err cause.Twice else laid_by w p p.read

-- ---- the whole text

abbrev pub cause_of : Result (List ℕ) AsmCause → Option AsmCause
cause_of (Ok bytes) = None
cause_of (Err c) = Some c

abbrev pub bytes_or_none : Result (List ℕ) AsmCause → List ℕ
bytes_or_none (Ok bytes) = bytes
bytes_or_none (Err c) = []

-- the bytes that a line adds to a section
abbrev pub laid_in : Section → Section → List ℕ → List ℕ
laid_in section.Text section.Text bytes = bytes
laid_in section.Data section.Data bytes = bytes
laid_in _ _ bytes = []

unfoldable pub section_bytes : Whole → Section → List Placed → List ℕ
section_bytes w s ps = flat_map (λ p. laid_in s p.before.section (bytes_or_none (laid w p))) ps

-- the last entry that is named
abbrev pub entry_past : Whole → ℕ → Statement → ℕ
entry_past w entry (Entry name) = address_of w name
entry_past w entry _ = entry

unfoldable pub entry_address : Whole → ℕ → List Placed → ℕ
entry_address w entry [] = entry
entry_address w entry (p ∷ ps) = entry_address w (entry_past w entry (stated p)) ps

-- text may be read and executed, data read and written
abbrev pub text_range : List ℕ → Range
text_range bytes = record { address = text_base; size = length bytes; read = true; write = false; execute = true; bytes = bytes }

abbrev pub data_ranges : ℕ → List ℕ → List Range
data_ranges text_len [] = []
data_ranges text_len (b ∷ bs) = record { address = data_base text_len; size = length (b ∷ bs); read = true; write = true; execute = false; bytes = b ∷ bs } ∷ []

abbrev pub laid_program : Whole → List Placed → Executable
laid_program w ps = record { entry = entry_address w text_base ps; ranges = text_range (section_bytes w section.Text ps) ∷ data_ranges w.text_len (section_bytes w section.Data ps) }

abbrev pub first_cause : Whole → List Placed → Option (ℕ × AsmCause)
first_cause w ps = first_fault 0 (map (λ p. cause_of (laid w p)) ps)

-- a text too short for an instruction is a fault of line 1
abbrev pub meaning_by : Whole → List Placed → Option (ℕ × AsmCause) → Result Executable AsmFault
meaning_by w ps (Some f) = Err (fault.Line (line_number f.0) f.1)
meaning_by w ps None = if nat_lt w.text_len 4 then Err (fault.Line 1 cause.Range) else Ok (laid_program w ps)

unfoldable pub meaning : Whole → List Placed → Result Executable AsmFault
meaning w ps = meaning_by w ps (first_cause w ps)

abbrev pub whole_of : List Placed → Whole
whole_of ps = record { find = defined (definitions (map marked ps)); text_len = (ended nothing_reached ps).text_len }

abbrev pub assembled_lines : List Placed → Result Executable AsmFault
assembled_lines ps = meaning (whole_of ps) ps

-- the program of a text, or its first fault
unfoldable pub assembled : List ℕ → Result Executable AsmFault
assembled text = assembled_lines (placed 0 nothing_reached (lines text))
