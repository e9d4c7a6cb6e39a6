-- What the statement of a line says by itself.
use Rattle.std.specs.Prelude.{ℕ, Bool, true, false, ◌&&◌, ◌||◌, List, [], ◌∷◌, Option, Some, None, Result, Ok, Err, if◌then◌else◌, ◌==◌, nat_lt, ◌+◌, ◌-◌, ◌*◌, ◌/◌, ◌%◌, ◌^◌, length, take, map, slice_index, is_some, option_map, unwrap_or, option_and_then, ℤ, pos, ◌-ℤ◌}
use Rattle.std.specs.Option.{ok_or}
use Rattle.std.specs.List.{list_all}
use Rattle.std.specs.Int.{w8, w32, cast_unsigned, cast_signed}
use Rattle.nv_isa.specs.declared.op.Op.{Op}
use Rattle.nv_isa.specs.declared.op.Op.TheVariants as op
use Rattle.nv_isa.specs.declared.op.Insn.{Insn}
use Rattle.nv_isa.specs.Spelling.{encoded}
use Rattle.nv_bytes.specs.Lines.{is_name, operands, prefix, rest_after}
use Rattle.nv_bytes.specs.Names.{defined}
use Rattle.nv_asm.specs.declared.fault.AsmCause.{AsmCause}
use Rattle.nv_asm.specs.declared.fault.AsmCause.TheVariants as cause
use Rattle.nv_asm.specs.declared.forms.Order.{Order}
use Rattle.nv_asm.specs.declared.forms.Shape.{Shape}
use Rattle.nv_asm.specs.declared.forms.Shape.TheVariants as shape
use Rattle.nv_asm.specs.declared.forms.Kind.{Kind}
use Rattle.nv_asm.specs.declared.forms.Kind.TheVariants as kind
use Rattle.nv_asm.specs.Numbers.{register_named, is_number, number, number_of_8_bits, number_of_12_bits, number_of_32_bits}
use Rattle.nv_asm.specs.Forms.{kinds, flags}
use Rattle.nv_asm.specs.Strings.{string}

-- a word of `.word`
pub data Word : Type 0 where
  Value : ℕ → Word
  Address : List ℕ → Word

-- instructions: words that stand by themselves, or what needs the place of a label
pub data Code : Type 0 where
  Fixed : List ℕ → Code
  Branch : Op → ℕ → ℕ → List ℕ → Code
  Jump : ℕ → List ℕ → Code
  Load : ℕ → List ℕ → Code

pub data Statement : Type 0 where
  Blank : Statement
  Text : Statement
  Data : Statement
  Bytes : List ℕ → Statement
  Zero : ℕ → Statement
  Words : List Word → Statement
  Entry : List ℕ → Statement
  Instruction : Code → Statement
  -- an instruction with a number off its range
  OffInstruction : Statement
  -- a directive with a number off its range
  OffData : Statement
  -- words with a number off its range among them
  OffWords : List Word → Statement

abbrev pub insn : Op → ℕ → ℕ → ℕ → ℤ → Insn
insn o d a b i = record { op = o; rd = d; rs1 = a; rs2 = b; imm = i }

-- one instruction that needs no label
abbrev pub single : Insn → Statement
single i = Instruction (Fixed (encoded i ∷ []))

-- what a number makes, where it is in its range
abbrev pub with_number : Option ℤ → (ℤ → Statement) → Statement
with_number None make = OffInstruction
with_number (Some z) make = make z

-- the upper 20 bits of a number, and its low 12 bits with their sign: `lui` and `addi`
abbrev pub upper_of : ℕ → ℕ
upper_of n = (n + 0x800) / 4096 % 2 ^ 20

abbrev pub lower_of : ℕ → ℤ
lower_of n = if nat_lt (n % 4096) 2048 then pos (n % 4096) else pos (n % 4096) -ℤ pos 4096

-- the two words that load a number of 32 bits
unfoldable pub loading : ℕ → ℕ → List ℕ
loading rd n = encoded (insn op.Lui rd 0 0 (cast_signed w32 (4096 * upper_of n))) ∷ encoded (insn op.Addi rd rd 0 (lower_of n)) ∷ []

-- ---- operands

-- a step of a `do` block: what comes after it, of the value that there is
infixl 10 ◌>>=◌
abbrev pub ◌>>=◌ : {A B : Type 0} → Option A → (A → Option B) → Option B
(Some x) >>= f = f x
None >>= f = None

-- a label's name
abbrev pub name : List ℕ → Option (List ℕ)
name text = if is_name text then Some text else None

abbrev pub is_not_open : ℕ → Bool
is_not_open b = if b == 40 then false else true

abbrev pub closed : List ℕ → Option (List ℕ)
closed text = if slice_index text (length text - 1) == 41 then Some (take (length text - 1) text) else None

-- what stands in parentheses
abbrev pub enclosed : List ℕ → Option (List ℕ)
enclosed [] = None
enclosed (b ∷ bs) = closed bs

-- the number and the register of `imm(rs1)`
abbrev pub base_register : List ℕ → Option ℕ
base_register text = option_and_then register_named (enclosed (rest_after is_not_open text))

abbrev pub displacement : List ℕ → Option (Option ℤ)
displacement text = number_of_12_bits (prefix is_not_open text)

-- the register of `(rs1)`
abbrev pub sole_register : List ℕ → Option ℕ
sole_register text = if length (prefix is_not_open text) == 0 then base_register text else None

unfoldable pub registers_of : Op → List ℕ → List ℕ → List ℕ → Option Statement
registers_of o a b c = do
  rd ← register_named a
  rs1 ← register_named b
  rs2 ← register_named c
  Some (single (insn o rd rs1 rs2 (pos 0)))

unfoldable pub immediate_of : Op → List ℕ → List ℕ → List ℕ → Option Statement
immediate_of o a b c = do
  rd ← register_named a
  rs1 ← register_named b
  n ← number_of_12_bits c
  Some (with_number n (λ z. single (insn o rd rs1 0 z)))

unfoldable pub shift_of : Op → List ℕ → List ℕ → List ℕ → Option Statement
shift_of o a b c = do
  rd ← register_named a
  rs1 ← register_named b
  n ← number (pos 0) (pos 31) c
  Some (with_number n (λ z. single (insn o rd rs1 0 z)))

unfoldable pub load_of : Op → List ℕ → List ℕ → Option Statement
load_of o a b = do
  rd ← register_named a
  rs1 ← base_register b
  n ← displacement b
  Some (with_number n (λ z. single (insn o rd rs1 0 z)))

unfoldable pub store_of : Op → List ℕ → List ℕ → Option Statement
store_of o a b = do
  rs2 ← register_named a
  rs1 ← base_register b
  n ← displacement b
  Some (with_number n (λ z. single (insn o 0 rs1 rs2 z)))

unfoldable pub reserved_statement : Op → Order → List ℕ → List ℕ → Option Statement
reserved_statement o x a b = do
  rd ← register_named a
  rs1 ← sole_register b
  Some (single (insn o rd rs1 0 (flags x)))

unfoldable pub atomic_of : Op → Order → List ℕ → List ℕ → List ℕ → Option Statement
atomic_of o x a b c = do
  rd ← register_named a
  rs2 ← register_named b
  rs1 ← sole_register c
  Some (single (insn o rd rs1 rs2 (flags x)))

unfoldable pub branch_of : Op → List ℕ → List ℕ → List ℕ → Option Statement
branch_of o a b c = do
  rs1 ← register_named a
  rs2 ← register_named b
  target ← name c
  Some (Instruction (Branch o rs1 rs2 target))

unfoldable pub jump_and_link_of : List ℕ → List ℕ → Option Statement
jump_and_link_of a b = do
  rd ← register_named a
  target ← name b
  Some (Instruction (Jump rd target))

unfoldable pub upper_number_of : Op → List ℕ → List ℕ → Option Statement
upper_number_of o a b = do
  rd ← register_named a
  n ← number (pos 0) (pos 0xfffff) b
  Some (with_number n (λ z. single (insn o rd 0 0 (cast_signed w32 (4096 * cast_unsigned w32 z)))))

unfoldable pub load_number_of : List ℕ → List ℕ → Option Statement
load_number_of a b = do
  rd ← register_named a
  n ← number_of_32_bits b
  Some (with_number n (λ z. Instruction (Fixed (loading rd (cast_unsigned w32 z)))))

unfoldable pub load_address_of : List ℕ → List ℕ → Option Statement
load_address_of a b = do
  rd ← register_named a
  target ← name b
  Some (Instruction (Load rd target))

unfoldable pub move_of : List ℕ → List ℕ → Option Statement
move_of a b = do
  rd ← register_named a
  rs1 ← register_named b
  Some (single (insn op.Addi rd rs1 0 (pos 0)))

unfoldable pub jump_of : List ℕ → Option Statement
jump_of a = option_map (λ target. Instruction (Jump 0 target)) (name a)

abbrev pub zeros : Option ℤ → Statement
zeros None = OffData
zeros (Some z) = Zero (cast_unsigned w32 z)

unfoldable pub zeros_of : List ℕ → Option Statement
zeros_of a = option_map zeros (number (pos 0) (pos 1048576) a)

unfoldable pub entry_statement : List ℕ → Option Statement
entry_statement a = option_map Entry (name a)

-- the statement of these operands, where they are of the shape
abbrev pub of_none : Shape → Option Statement
of_none (shape.Alone word) = Some (Instruction (Fixed (word ∷ [])))
of_none shape.Text = Some Text
of_none shape.Data = Some Data
of_none _ = None

abbrev pub of_one : Shape → List ℕ → Option Statement
of_one shape.Jump a = jump_of a
of_one shape.Zero a = zeros_of a
of_one shape.Entry a = entry_statement a
of_one _ a = None

abbrev pub of_two : Shape → List ℕ → List ℕ → Option Statement
of_two (shape.Load o) a b = load_of o a b
of_two (shape.Store o) a b = store_of o a b
of_two (shape.Reserved o x) a b = reserved_statement o x a b
of_two (shape.Upper o) a b = upper_number_of o a b
of_two shape.JumpAndLink a b = jump_and_link_of a b
of_two shape.LoadNumber a b = load_number_of a b
of_two shape.LoadAddress a b = load_address_of a b
of_two shape.Move a b = move_of a b
of_two _ a b = None

abbrev pub of_three : Shape → List ℕ → List ℕ → List ℕ → Option Statement
of_three (shape.Registers o) a b c = registers_of o a b c
of_three (shape.Immediate o) a b c = immediate_of o a b c
of_three (shape.Shift o) a b c = shift_of o a b c
of_three (shape.Atomic o x) a b c = atomic_of o x a b c
of_three (shape.Branch o) a b c = branch_of o a b c
of_three _ a b c = None

unfoldable pub formed : Shape → List (List ℕ) → Option Statement
formed s [] = of_none s
formed s (a ∷ []) = of_one s a
formed s (a ∷ b ∷ []) = of_two s a b
formed s (a ∷ b ∷ c ∷ []) = of_three s a b c
formed s _ = None

-- ---- words and bytes

-- whether a number that was read is in its range
abbrev pub is_within : Option (Option ℤ) → Bool
is_within read = is_some (unwrap_or read None)

-- the number that was read
abbrev pub number_or_zero : Option (Option ℤ) → ℤ
number_or_zero read = unwrap_or (unwrap_or read None) (pos 0)

abbrev pub is_byte : List ℕ → Bool
is_byte text = is_within (number_of_8_bits text)

abbrev pub byte_of : List ℕ → ℕ
byte_of text = cast_unsigned w8 (number_or_zero (number_of_8_bits text))

abbrev pub bytes_within : List (List ℕ) → Statement
bytes_within os = if list_all is_byte os then Bytes (map byte_of os) else OffData

-- one number or more
unfoldable pub bytes_of : List (List ℕ) → Option Statement
bytes_of os = if nat_lt 0 (length os) && list_all is_number os then Some (bytes_within os) else None

abbrev pub is_item : List ℕ → Bool
is_item text = is_name text || is_number text

abbrev pub is_word : List ℕ → Bool
is_word text = is_name text || is_within (number_of_32_bits text)

unfoldable pub word_of : List ℕ → Word
word_of text = if is_name text then Address text else Value (cast_unsigned w32 (number_or_zero (number_of_32_bits text)))

abbrev pub words_within : List (List ℕ) → Statement
words_within os = if list_all is_word os then Words (map word_of os) else OffWords (map word_of os)

-- one number or label or more
unfoldable pub words_of : List (List ℕ) → Option Statement
words_of os = if nat_lt 0 (length os) && list_all is_item os then Some (words_within os) else None

-- ---- statements

abbrev pub kind_read : Kind → List ℕ → Option Statement
kind_read (kind.Plain s) rest = formed s (operands rest)
kind_read kind.Bytes rest = bytes_of (operands rest)
kind_read kind.Words rest = words_of (operands rest)
kind_read kind.Ascii rest = option_map Bytes (string rest)

abbrev pub stated : Option Kind → List ℕ → Result Statement AsmCause
stated None rest = Err cause.Mnemonic
stated (Some k) rest = ok_or (kind_read k rest) cause.Operand

abbrev pub statement_begun : List ℕ → List ℕ → Result Statement AsmCause
statement_begun [] rest = Ok Blank
statement_begun (b ∷ bs) rest = stated (defined kinds (b ∷ bs)) rest

-- the statement of a first word and the rest after it, or why it has none
unfoldable pub statement : List ℕ → List ℕ → Result Statement AsmCause
statement word rest = statement_begun word rest
