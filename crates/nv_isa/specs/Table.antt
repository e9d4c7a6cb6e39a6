-- The table of RV32IMA, and the instruction that a word spells: the RISC-V Unprivileged ISA manual (20191213), chapter 24 for
-- the rows, section 2.2 for the fields, section 2.3 for the immediates and section 8.1 for aq and rl.
use Rattle.std.specs.Prelude.{Bool, ℕ, ◌+◌, ◌-◌, ◌*◌, ◌/◌, ◌%◌, ◌^◌, List, [], ◌∷◌, Option, find, nat_lt, ◌==◌, if◌then◌else◌, bit_and, ℤ, pos, ◌-ℤ◌}
use Rattle.std.specs.Option.{option_map}
use Rattle.nv_isa.specs.declared.op.Op.{Op}
use Rattle.nv_isa.specs.declared.op.Op.TheVariants.{Lui, Auipc, Jal, Jalr, Beq, Bne, Blt, Bge, Bltu, Bgeu, Lb, Lh, Lw, Lbu, Lhu, Sb, Sh, Sw, Addi, Slti, Sltiu, Xori, Ori, Andi, Slli, Srli, Srai, Add, Sub, Sll, Slt, Sltu, Xor, Srl, Sra, Or, And, Fence, Ecall, Ebreak, Mul, Mulh, Mulhsu, Mulhu, Div, Divu, Rem, Remu, LoadReserved, StoreConditional, AmoSwap, AmoAdd, AmoXor, AmoAnd, AmoOr, AmoMin, AmoMax, AmoMinu, AmoMaxu}
use Rattle.nv_isa.specs.declared.op.Form.{Form}
use Rattle.nv_isa.specs.declared.op.Form.TheVariants.{Register, Immediate, Shift, Store, Branch, Upper, Jump, Whole, Atomic, Reserve}
use Rattle.nv_isa.specs.declared.op.Insn.{Insn}

-- one line of the manual's listing: the bits that are given, their values, where the other bits go, and what it does
pub record Encoding : Type 0 where
  pub mask : ℕ
  pub value : ℕ
  pub form : Form
  pub op : Op

-- a row of four columns
abbrev pub with_op : Op → ℕ → ℕ → Form → Encoding
with_op o m v f = record { mask = m; value = v; form = f; op = o }

-- the row of each operation: mask, value, form
unfoldable pub encoding : Op → Encoding
encoding Lui = with_op Lui 0x7f 0x37 Upper
encoding Auipc = with_op Auipc 0x7f 0x17 Upper
encoding Jal = with_op Jal 0x7f 0x6f Jump
encoding Jalr = with_op Jalr 0x707f 0x67 Immediate
encoding Beq = with_op Beq 0x707f 0x63 Branch
encoding Bne = with_op Bne 0x707f 0x1063 Branch
encoding Blt = with_op Blt 0x707f 0x4063 Branch
encoding Bge = with_op Bge 0x707f 0x5063 Branch
encoding Bltu = with_op Bltu 0x707f 0x6063 Branch
encoding Bgeu = with_op Bgeu 0x707f 0x7063 Branch
encoding Lb = with_op Lb 0x707f 0x3 Immediate
encoding Lh = with_op Lh 0x707f 0x1003 Immediate
encoding Lw = with_op Lw 0x707f 0x2003 Immediate
encoding Lbu = with_op Lbu 0x707f 0x4003 Immediate
encoding Lhu = with_op Lhu 0x707f 0x5003 Immediate
encoding Sb = with_op Sb 0x707f 0x23 Store
encoding Sh = with_op Sh 0x707f 0x1023 Store
encoding Sw = with_op Sw 0x707f 0x2023 Store
encoding Addi = with_op Addi 0x707f 0x13 Immediate
encoding Slti = with_op Slti 0x707f 0x2013 Immediate
encoding Sltiu = with_op Sltiu 0x707f 0x3013 Immediate
encoding Xori = with_op Xori 0x707f 0x4013 Immediate
encoding Ori = with_op Ori 0x707f 0x6013 Immediate
encoding Andi = with_op Andi 0x707f 0x7013 Immediate
encoding Slli = with_op Slli 0xfe00707f 0x1013 Shift
encoding Srli = with_op Srli 0xfe00707f 0x5013 Shift
encoding Srai = with_op Srai 0xfe00707f 0x40005013 Shift
encoding Add = with_op Add 0xfe00707f 0x33 Register
encoding Sub = with_op Sub 0xfe00707f 0x40000033 Register
encoding Sll = with_op Sll 0xfe00707f 0x1033 Register
encoding Slt = with_op Slt 0xfe00707f 0x2033 Register
encoding Sltu = with_op Sltu 0xfe00707f 0x3033 Register
encoding Xor = with_op Xor 0xfe00707f 0x4033 Register
encoding Srl = with_op Srl 0xfe00707f 0x5033 Register
encoding Sra = with_op Sra 0xfe00707f 0x40005033 Register
encoding Or = with_op Or 0xfe00707f 0x6033 Register
encoding And = with_op And 0xfe00707f 0x7033 Register
encoding Fence = with_op Fence 0x707f 0xf Immediate
encoding Ecall = with_op Ecall 0xffffffff 0x73 Whole
encoding Ebreak = with_op Ebreak 0xffffffff 0x100073 Whole
encoding Mul = with_op Mul 0xfe00707f 0x2000033 Register
encoding Mulh = with_op Mulh 0xfe00707f 0x2001033 Register
encoding Mulhsu = with_op Mulhsu 0xfe00707f 0x2002033 Register
encoding Mulhu = with_op Mulhu 0xfe00707f 0x2003033 Register
encoding Div = with_op Div 0xfe00707f 0x2004033 Register
encoding Divu = with_op Divu 0xfe00707f 0x2005033 Register
encoding Rem = with_op Rem 0xfe00707f 0x2006033 Register
encoding Remu = with_op Remu 0xfe00707f 0x2007033 Register
encoding LoadReserved = with_op LoadReserved 0xf9f0707f 0x1000202f Reserve
encoding StoreConditional = with_op StoreConditional 0xf800707f 0x1800202f Atomic
encoding AmoSwap = with_op AmoSwap 0xf800707f 0x800202f Atomic
encoding AmoAdd = with_op AmoAdd 0xf800707f 0x202f Atomic
encoding AmoXor = with_op AmoXor 0xf800707f 0x2000202f Atomic
encoding AmoAnd = with_op AmoAnd 0xf800707f 0x6000202f Atomic
encoding AmoOr = with_op AmoOr 0xf800707f 0x4000202f Atomic
encoding AmoMin = with_op AmoMin 0xf800707f 0x8000202f Atomic
encoding AmoMax = with_op AmoMax 0xf800707f 0xa000202f Atomic
encoding AmoMinu = with_op AmoMinu 0xf800707f 0xc000202f Atomic
encoding AmoMaxu = with_op AmoMaxu 0xf800707f 0xe000202f Atomic

-- all rows
unfoldable pub encodings : List Encoding
encodings =
    encoding Lui ∷ encoding Auipc ∷ encoding Jal ∷ encoding Jalr ∷ encoding Beq ∷ encoding Bne ∷ encoding Blt ∷ encoding Bge ∷
    encoding Bltu ∷ encoding Bgeu ∷ encoding Lb ∷ encoding Lh ∷ encoding Lw ∷ encoding Lbu ∷ encoding Lhu ∷ encoding Sb ∷ encoding Sh ∷
    encoding Sw ∷ encoding Addi ∷ encoding Slti ∷ encoding Sltiu ∷ encoding Xori ∷ encoding Ori ∷ encoding Andi ∷ encoding Slli ∷
    encoding Srli ∷ encoding Srai ∷ encoding Add ∷ encoding Sub ∷ encoding Sll ∷ encoding Slt ∷ encoding Sltu ∷ encoding Xor ∷
    encoding Srl ∷ encoding Sra ∷ encoding Or ∷ encoding And ∷ encoding Fence ∷ encoding Ecall ∷ encoding Ebreak ∷
    encoding Mul ∷ encoding Mulh ∷ encoding Mulhsu ∷ encoding Mulhu ∷ encoding Div ∷ encoding Divu ∷ encoding Rem ∷ encoding Remu ∷
    encoding LoadReserved ∷ encoding StoreConditional ∷ encoding AmoSwap ∷ encoding AmoAdd ∷ encoding AmoXor ∷ encoding AmoAnd ∷ encoding AmoOr ∷
    encoding AmoMin ∷ encoding AmoMax ∷ encoding AmoMinu ∷ encoding AmoMaxu ∷ []

-- a word belongs to a row where the word under the mask is the row's value
abbrev pub belongs : ℕ → Encoding → Bool
belongs word r = bit_and word r.mask == r.value

-- the row that the word belongs to
unfoldable pub row_of : ℕ → Option Encoding
row_of word = find (belongs word) encodings

-- bits high to low of a word
abbrev pub bits : ℕ → ℕ → ℕ → ℕ
bits word high low = word / 2 ^ low % 2 ^ (high + 1 - low)

-- a number of k bits, with its top bit as the sign
abbrev pub signed_value : ℕ → ℕ → ℤ
signed_value k n = if nat_lt n (2 ^ (k - 1)) then pos n else pos n -ℤ pos (2 ^ k)

abbrev pub rd_of : ℕ → ℕ
rd_of word = bits word 11 7

abbrev pub rs1_of : ℕ → ℕ
rs1_of word = bits word 19 15

abbrev pub rs2_of : ℕ → ℕ
rs2_of word = bits word 24 20

-- the immediate of each form
abbrev pub immediate : Form → ℕ → ℤ
immediate Register word = pos 0
immediate Immediate word = signed_value 12 (bits word 31 20)
immediate Shift word = pos (bits word 24 20)
immediate Store word = signed_value 12 (2 ^ 5 * bits word 31 25 + bits word 11 7)
immediate Branch word = signed_value 13 (2 ^ 12 * bits word 31 31 + 2 ^ 11 * bits word 7 7 + 2 ^ 5 * bits word 30 25 + 2 * bits word 11 8)
immediate Upper word = signed_value 32 (2 ^ 12 * bits word 31 12)
immediate Jump word = signed_value 21 (2 ^ 20 * bits word 31 31 + 2 ^ 12 * bits word 19 12 + 2 ^ 11 * bits word 20 20 + 2 * bits word 30 21)
immediate Whole word = pos 0
immediate Atomic word = pos (bits word 26 25)
immediate Reserve word = pos (bits word 26 25)

-- the registers of each form, 0 where the form has none
abbrev pub rd_in : Form → ℕ → ℕ
rd_in Store word = 0
rd_in Branch word = 0
rd_in Whole word = 0
rd_in _ word = rd_of word

abbrev pub rs1_in : Form → ℕ → ℕ
rs1_in Upper word = 0
rs1_in Jump word = 0
rs1_in Whole word = 0
rs1_in _ word = rs1_of word

abbrev pub rs2_in : Form → ℕ → ℕ
rs2_in Register word = rs2_of word
rs2_in Store word = rs2_of word
rs2_in Branch word = rs2_of word
rs2_in Atomic word = rs2_of word
rs2_in _ word = 0

-- the instruction that a word of the row spells
unfoldable pub insn_of : Op → Form → ℕ → Insn
insn_of o f word = record { op = o; rd = rd_in f word; rs1 = rs1_in f word; rs2 = rs2_in f word; imm = immediate f word }

-- the instruction of the row that the word belongs to
unfoldable pub decoded : ℕ → Option Insn
decoded word = option_map (λ r. insn_of r.op r.form word) (row_of word)
