-- Instructions that were decoded.
use Rattle.std.specs.Prelude.{◌≡◌, Bool, true, false, if◌then◌else◌, pos, ℕ, ◌+◌, ◌-◌, ◌*◌, ◌/◌, ◌%◌, ◌^◌, ◌≤◌, ◌<◌, ◌⊎◌, List, length, Option, Some, None, slice_index_or}
use Rattle.nv_isa.specs.declared.op.Op.{Op}
use Rattle.nv_isa.specs.declared.op.Op.TheVariants.{Ebreak}
use Rattle.nv_isa.specs.declared.op.Insn.{Insn}
use Rattle.nv_isa.specs.Table.{decoded}
use Rattle.nv_isa.specs.Spelling.{HasSmallRegisters}
use Rattle.nv_memory.specs.declared.region.Region.{Region}
use Rattle.nv_memory.specs.declared.region.Right.TheVariants.{Execute}
use Rattle.nv_memory.specs.Bytes.{bytes_at, little}
use Rattle.nv_memory.specs.Code.{code_start}
use Rattle.nv_memory.specs.Region.{holds}

-- what stands where nothing is kept
abbrev pub blank : Insn
blank = record { op = Ebreak; rd = 0; rs1 = 0; rs2 = 0; imm = pos 0 }

abbrev pub is_kept : Op → Bool
is_kept Ebreak = false
is_kept _ = true

-- the instruction, unless it is an EBREAK
abbrev pub shown : Insn → Option Insn
shown i = if is_kept i.op then Some i else None

-- the instruction that is kept at a place
abbrev pub kept_at : List Insn → ℕ → Option Insn
kept_at insns k = shown (slice_index_or insns k blank)

-- the place of the word at an address, from the first on
abbrev pub place_of : ℕ → ℕ → ℕ
place_of start address = (address + (2 ^ 32 - start)) % 2 ^ 32 / 4

-- the instruction that is kept for an address
abbrev pub kept : ℕ → List Insn → ℕ → Option Insn
kept start insns address = kept_at insns (place_of start address)

-- at each place an instruction has small registers, whether it is kept or not
abbrev pub AreSmall : List Insn → Type 0
AreSmall insns = (k : ℕ) → HasSmallRegisters (slice_index_or insns k blank)

-- the word at the address may be executed, and spells the instruction
pub record IsInsn (bytes : List ℕ) (regions : List Region) (a : ℕ) (i : Insn) : Type 0 where
  pub held : holds regions a 4 Execute ≡ true
  pub spelled : decoded (little (bytes_at bytes a 4)) ≡ Some i
  pub registers : HasSmallRegisters i

-- each that is kept is the instruction of its word
pub record AreDecoded (start : ℕ) (insns : List Insn) (bytes : List ℕ) (regions : List Region) : Type 0 where
  pub begins : start ≡ code_start regions
  pub aligned : start % 4 ≡ 0
  pub fits : start + 4 * length insns ≤ 2 ^ 32
  pub small : AreSmall insns
  pub are : (k : ℕ) (i : Insn) → kept_at insns k ≡ Some i → IsInsn bytes regions (start + 4 * k) i

-- no more is kept than before, and nothing at the places from the first to below the last
pub record ArePlaces (first : ℕ) (last : ℕ) (before : List Insn) (after : List Insn) : Type 0 where
  pub length : length after ≡ length before
  pub small : AreSmall before → AreSmall after
  pub are : (k : ℕ) (i : Insn) → kept_at after k ≡ Some i → (kept_at before k ≡ Some i) × ((k < first) ⊎ (last ≤ k))

-- the word at the address doesn't meet the range
abbrev pub IsApart : ℕ → ℕ → ℕ → Type 0
IsApart a from to = (a + 4 ≤ from) ⊎ (to ≤ a)

-- no more is kept than before, and nothing of a word that meets the range
pub record Remain (start : ℕ) (from : ℕ) (to : ℕ) (before : List Insn) (after : List Insn) : Type 0 where
  pub small : AreSmall before → AreSmall after
  pub are : (k : ℕ) (i : Insn) → kept_at after k ≡ Some i → (kept_at before k ≡ Some i) × IsApart (start + 4 * k) from to
