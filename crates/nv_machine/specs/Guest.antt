-- One step of the machine, on lists: the RISC-V Unprivileged ISA manual (20191213), sections 2.4 to 2.8,
-- and chapters 7 and 8. The faults come in the order fetch, illegal, misaligned, load, store; a load or a store at any address moves
-- its bytes one by one, but for the atomic ones, which want a multiple of 4.
use Rattle.std.specs.Prelude.{Bool, false, ◌&&◌, ℕ, ◌*◌, ◌/◌, ◌%◌, ◌==◌, if◌then◌else◌, slice_index, Option, Some, None, Result, Ok, Err}
use Rattle.std.specs.Int.{w32, cast_unsigned}
use Rattle.nv_isa.specs.declared.op.Op.{Op}
use Rattle.nv_isa.specs.declared.op.Op.TheVariants.{Lui, Auipc, Jal, Jalr, Beq, Bne, Blt, Bge, Bltu, Bgeu, Lb, Lh, Lw, Lbu, Lhu, Sb, Sh, Sw, Addi, Slti, Sltiu, Xori, Ori, Andi, Slli, Srli, Srai, Add, Sub, Sll, Slt, Sltu, Xor, Srl, Sra, Or, And, Fence, Ecall, Ebreak, Mul, Mulh, Mulhsu, Mulhu, Div, Divu, Rem, Remu, LoadReserved, StoreConditional, AmoSwap, AmoAdd, AmoXor, AmoAnd, AmoOr, AmoMin, AmoMax, AmoMinu, AmoMaxu}
use Rattle.nv_isa.specs.declared.op.Insn.{Insn}
use Rattle.nv_isa.specs.Table.{decoded}
use Rattle.nv_memory.specs.declared.region.Access.{Access}
use Rattle.nv_memory.specs.declared.region.Right.{Right}
use Rattle.nv_memory.specs.declared.region.Width.{Width}
use Rattle.nv_memory.specs.declared.region.Width.TheVariants.{One, Two, Four}
use Rattle.nv_memory.specs.declared.region.Right.TheVariants.{Read, Write, Execute}
use Rattle.nv_memory.specs.Bytes.{bytes_at, little, put, little_bytes, byte_count}
use Rattle.nv_memory.specs.Region.{holds}
use Rattle.nv_memory.specs.Image.{Image, value_at}
use Rattle.nv_machine.specs.declared.outcome.FaultKind.{FaultKind}
use Rattle.nv_machine.specs.declared.outcome.FaultKind.TheVariants as kinds
use Rattle.nv_machine.specs.declared.outcome.Stepped.{Stepped}
use Rattle.nv_machine.specs.declared.outcome.Stepped.TheVariants as ends
use Rattle.nv_machine.specs.Registers.{Registers, written}
use Rattle.nv_machine.specs.Effects.{sum, computed, is_taken, sign_extended, combined}

-- the registers with the program counter, and the memory
pub record Machine : Type 0 where
  pub regs : Registers
  pub memory : Image

-- how the step ended, and the machine after it
abbrev pub StepResult : Type 0
StepResult = Stepped × Machine

-- a fault changes nothing
abbrev pub fault : FaultKind → Machine → StepResult
fault k m = (ends.Fault k, m)

-- an outcome that changes the registers alone
abbrev pub with_memory : Image → Stepped × Registers → StepResult
with_memory memory r = (r.0, record { regs = r.1; memory = memory })

-- what register n holds
abbrev pub register : Registers → ℕ → ℕ
register r n = slice_index r.x n

-- the immediate as a number of 32 bits
abbrev pub immediate_word : Insn → ℕ
immediate_word i = cast_unsigned w32 i.imm

-- the address of the next instruction
abbrev pub next_address : Registers → ℕ
next_address r = sum r.pc 4

-- a register gets a value, and the machine goes on at an address
abbrev pub gets : ℕ → ℕ → ℕ → Registers → Stepped × Registers
gets rd value to r = (ends.On, record r { x = written r.x rd value; pc = to })

-- a jump to an address that must be a multiple of 4
abbrev pub jumps : ℕ → ℕ → Registers → Stepped × Registers
jumps rd to r = if to % 4 == 0 then gets rd (next_address r) to r else (ends.Fault kinds.Misaligned, r)

-- a branch that may be taken, to an address that must then be a multiple of 4
abbrev pub branches : Bool → ℕ → Registers → Stepped × Registers
branches taken to r = if taken then (if to % 4 == 0 then (ends.On, record r { pc = to }) else (ends.Fault kinds.Misaligned, r)) else (ends.On, record r { pc = next_address r })

-- a register gets the number that was loaded, or the load is refused
abbrev pub gets_loaded : ℕ → Result ℕ Access → (ℕ → ℕ) → Registers → Stepped × Registers
gets_loaded rd (Ok value) f r = gets rd (f value) (next_address r) r
gets_loaded rd (Err e) f r = (ends.Fault kinds.Load, r)

-- how many bytes a load or a store moves
abbrev pub width_of : Op → Width
width_of Lb = One
width_of Lbu = One
width_of Sb = One
width_of Lh = Two
width_of Lhu = Two
width_of Sh = Two
width_of _ = Four

-- what a load makes of the number
abbrev pub extended : Op → ℕ → ℕ
extended Lb v = sign_extended 8 v
extended Lh v = sign_extended 16 v
extended _ v = v

-- a load, from rs1 and the immediate
abbrev pub loads : Op → Insn → Registers → Image → Stepped × Registers
loads o i r memory = gets_loaded i.rd (value_at memory (sum (register r i.rs1) (immediate_word i)) (width_of o) Read) (extended o) r

-- a store, at rs1 and the immediate
abbrev pub stores : Op → Insn → Machine → StepResult
stores o i m = let a = sum (register m.regs i.rs1) (immediate_word i) in
    if holds m.memory.regions a (byte_count (width_of o)) Write then (ends.On, record { regs = record m.regs { pc = next_address m.regs }; memory = record m.memory { bytes = put m.memory.bytes a (little_bytes (byte_count (width_of o)) (register m.regs i.rs2)) } }) else fault kinds.Store m

-- an operation with the immediate
abbrev pub with_immediate : Op → Insn → Registers → Stepped × Registers
with_immediate o i r = gets i.rd (computed o (register r i.rs1) (immediate_word i)) (next_address r) r

-- an operation on two registers
abbrev pub between_registers : Op → Insn → Registers → Stepped × Registers
between_registers o i r = gets i.rd (computed o (register r i.rs1) (register r i.rs2)) (next_address r) r

-- a branch by a comparison of two registers
abbrev pub compares : Op → Insn → Registers → Stepped × Registers
compares o i r = branches (is_taken o (register r i.rs1) (register r i.rs2)) (sum r.pc (immediate_word i)) r

-- the word at an address
abbrev pub word_at : Image → ℕ → ℕ
word_at memory a = little (bytes_at memory.bytes a 4)

-- the memory with another word at an address
abbrev pub with_word : Image → ℕ → ℕ → Image
with_word memory a v = record memory { bytes = put memory.bytes a (little_bytes 4 v) }

-- the address is a multiple of 4, and its word lies in a region with the right
abbrev pub is_word_at : Image → ℕ → Right → Bool
is_word_at memory a right = (a % 4 == 0) && holds memory.regions a 4 right

-- the address is reserved
abbrev pub is_reserved : Option ℕ → ℕ → Bool
is_reserved None a = false
is_reserved (Some b) a = b == a

-- LR.W: the word at rs1, whose address is reserved from then on
abbrev pub load_reserved : Insn → Registers → Image → Stepped × Registers
load_reserved i r memory = let a = register r i.rs1 in
    if is_word_at memory a Read then gets i.rd (word_at memory a) (next_address r) (record r { reserved = Some a }) else (ends.Fault kinds.Load, r)

-- SC.W: rs2 is stored at rs1 and rd gets 0 where that address is reserved, else rd gets 1; the reservation ends
abbrev pub store_conditional : Insn → Machine → StepResult
store_conditional i m = let a = register m.regs i.rs1 in let released = record m.regs { reserved = None } in
    if is_word_at m.memory a Write then (
    if is_reserved m.regs.reserved a then with_memory (with_word m.memory a (register m.regs i.rs2)) (gets i.rd 0 (next_address m.regs) released)
    else with_memory m.memory (gets i.rd 1 (next_address m.regs) released)) else fault kinds.Store m

-- an atomic operation: rd gets the word at rs1, which becomes what the operation makes of it and rs2
abbrev pub combines : Op → Insn → Machine → StepResult
combines o i m = let a = register m.regs i.rs1 in
    if is_word_at m.memory a Write && holds m.memory.regions a 4 Read then
    with_memory (with_word m.memory a (combined o (word_at m.memory a) (register m.regs i.rs2))) (gets i.rd (word_at m.memory a) (next_address m.regs) m.regs)
    else fault kinds.Store m

-- the effect of an instruction
abbrev pub effect : Op → Insn → Machine → StepResult
effect Lui i m = with_memory m.memory (gets i.rd (immediate_word i) (next_address m.regs) m.regs)
effect Auipc i m = with_memory m.memory (gets i.rd (sum m.regs.pc (immediate_word i)) (next_address m.regs) m.regs)
effect Jal i m = with_memory m.memory (jumps i.rd (sum m.regs.pc (immediate_word i)) m.regs)
effect Jalr i m = with_memory m.memory (jumps i.rd (sum (register m.regs i.rs1) (immediate_word i) / 2 * 2) m.regs)
effect Beq i m = with_memory m.memory (compares Beq i m.regs)
effect Bne i m = with_memory m.memory (compares Bne i m.regs)
effect Blt i m = with_memory m.memory (compares Blt i m.regs)
effect Bge i m = with_memory m.memory (compares Bge i m.regs)
effect Bltu i m = with_memory m.memory (compares Bltu i m.regs)
effect Bgeu i m = with_memory m.memory (compares Bgeu i m.regs)
effect Lb i m = with_memory m.memory (loads Lb i m.regs m.memory)
effect Lh i m = with_memory m.memory (loads Lh i m.regs m.memory)
effect Lw i m = with_memory m.memory (loads Lw i m.regs m.memory)
effect Lbu i m = with_memory m.memory (loads Lbu i m.regs m.memory)
effect Lhu i m = with_memory m.memory (loads Lhu i m.regs m.memory)
effect Sb i m = stores Sb i m
effect Sh i m = stores Sh i m
effect Sw i m = stores Sw i m
effect Addi i m = with_memory m.memory (with_immediate Addi i m.regs)
effect Slti i m = with_memory m.memory (with_immediate Slti i m.regs)
effect Sltiu i m = with_memory m.memory (with_immediate Sltiu i m.regs)
effect Xori i m = with_memory m.memory (with_immediate Xori i m.regs)
effect Ori i m = with_memory m.memory (with_immediate Ori i m.regs)
effect Andi i m = with_memory m.memory (with_immediate Andi i m.regs)
effect Slli i m = with_memory m.memory (with_immediate Slli i m.regs)
effect Srli i m = with_memory m.memory (with_immediate Srli i m.regs)
effect Srai i m = with_memory m.memory (with_immediate Srai i m.regs)
effect Add i m = with_memory m.memory (between_registers Add i m.regs)
effect Sub i m = with_memory m.memory (between_registers Sub i m.regs)
effect Sll i m = with_memory m.memory (between_registers Sll i m.regs)
effect Slt i m = with_memory m.memory (between_registers Slt i m.regs)
effect Sltu i m = with_memory m.memory (between_registers Sltu i m.regs)
effect Xor i m = with_memory m.memory (between_registers Xor i m.regs)
effect Srl i m = with_memory m.memory (between_registers Srl i m.regs)
effect Sra i m = with_memory m.memory (between_registers Sra i m.regs)
effect Or i m = with_memory m.memory (between_registers Or i m.regs)
effect And i m = with_memory m.memory (between_registers And i m.regs)
effect Fence i m = with_memory m.memory (ends.On, record m.regs { pc = next_address m.regs })
effect Ecall i m = (ends.Call, m)
effect Ebreak i m = fault kinds.Breakpoint m
effect Mul i m = with_memory m.memory (between_registers Mul i m.regs)
effect Mulh i m = with_memory m.memory (between_registers Mulh i m.regs)
effect Mulhsu i m = with_memory m.memory (between_registers Mulhsu i m.regs)
effect Mulhu i m = with_memory m.memory (between_registers Mulhu i m.regs)
effect Div i m = with_memory m.memory (between_registers Div i m.regs)
effect Divu i m = with_memory m.memory (between_registers Divu i m.regs)
effect Rem i m = with_memory m.memory (between_registers Rem i m.regs)
effect Remu i m = with_memory m.memory (between_registers Remu i m.regs)
effect LoadReserved i m = with_memory m.memory (load_reserved i m.regs m.memory)
effect StoreConditional i m = store_conditional i m
effect AmoSwap i m = combines AmoSwap i m
effect AmoAdd i m = combines AmoAdd i m
effect AmoXor i m = combines AmoXor i m
effect AmoAnd i m = combines AmoAnd i m
effect AmoOr i m = combines AmoOr i m
effect AmoMin i m = combines AmoMin i m
effect AmoMax i m = combines AmoMax i m
effect AmoMinu i m = combines AmoMinu i m
effect AmoMaxu i m = combines AmoMaxu i m

-- the instruction that was read, if there is one
abbrev pub executed : Option Insn → Machine → StepResult
executed None m = fault kinds.Illegal m
executed (Some i) m = effect i.op i m

-- the word that was fetched, or the refusal
abbrev pub fetched : Result ℕ Access → Machine → StepResult
fetched (Ok w) m = executed (decoded w) m
fetched (Err e) m = fault kinds.Fetch m

-- what a step does
unfoldable pub guest_step : Machine → StepResult
guest_step m = fetched (value_at m.memory m.regs.pc Four Execute) m
