-- A step that ends in a call or a fault leaves the machine as it was.
use Rattle.std.proofs.Common.{◌≡◌, ◌≢◌, Bool, true, false, ℕ, Option, Some, None, Result, Ok, Err, ◌*◌, ◌/◌, ◌%◌, ◌==◌, refl, sym, ap, ◌∙◌}
use Rattle.std.specs.Prelude.{if◌then◌else◌, ◌&&◌}
use Rattle.nv_isa.specs.declared.op.Op.{Op}
use Rattle.nv_isa.specs.declared.op.Op.TheVariants.{LoadReserved, StoreConditional, AmoSwap, AmoAdd, AmoXor, AmoAnd, AmoOr, AmoMin, AmoMax, AmoMinu, AmoMaxu, Jal, Jalr, Beq, Bne, Blt, Bge, Bltu, Bgeu, Lb, Lh, Lw, Lbu, Lhu, Sb, Sh, Sw, Ecall, Ebreak}
use Rattle.nv_isa.specs.declared.op.Insn.{Insn}
use Rattle.nv_isa.specs.Table.{decoded}
use Rattle.nv_memory.specs.declared.region.Access.{Access}
use Rattle.nv_memory.specs.declared.region.Width.TheVariants.{Four}
use Rattle.nv_memory.specs.declared.region.Right.TheVariants.{Read, Write, Execute}
use Rattle.nv_memory.specs.Bytes.{byte_count, bytes_at, little}
use Rattle.nv_memory.specs.Insns.{insn_at}
use Rattle.nv_memory.specs.Region.{holds}
use Rattle.nv_memory.specs.Image.{Image, value_at}
use Rattle.nv_machine.specs.declared.outcome.Stepped.{Stepped}
use Rattle.nv_machine.specs.declared.outcome.Stepped.TheVariants.{On}
use Rattle.nv_machine.specs.declared.outcome.Stepped.TheVariants as ends
use Rattle.nv_machine.specs.declared.outcome.FaultKind.TheVariants as kinds
use Rattle.nv_machine.specs.Registers.{Registers}
use Rattle.nv_machine.specs.Effects.{sum, is_taken}
use Rattle.nv_machine.specs.Guest.{Machine, StepResult, fault, with_memory, gets, jumps, branches, gets_loaded, loads, stores, compares, is_word_at, is_reserved, load_reserved, store_conditional, combines, register, immediate_word, next_address, width_of, extended, effect, executed, fetched, guest_step}

abbrev Rests : StepResult → Machine → Type 0
Rests o m = o.0 ≢ On → o.1 ≡ m

abbrev RegistersRest : Stepped × Registers → Registers → Type 0
RegistersRest o r = o.0 ≢ On → o.1 ≡ r

jumps_rest : (rd to : ℕ) (r : Registers) → RegistersRest (jumps rd to r) r
jumps_rest rd to r = go (to % 4 == 0)
  where
    go : (b : Bool) → RegistersRest (if b then gets rd (next_address r) to r else (ends.Fault kinds.Misaligned, r)) r
    go true = λ n. absurd (n refl)
    go false = λ n. refl

branches_rest : (taken : Bool) (to : ℕ) (r : Registers) → RegistersRest (branches taken to r) r
branches_rest false to r = λ n. absurd (n refl)
branches_rest true to r = go (to % 4 == 0)
  where
    go : (b : Bool) → RegistersRest (if b then (ends.On, record r { pc = to }) else (ends.Fault kinds.Misaligned, r)) r
    go true = λ n. absurd (n refl)
    go false = λ n. refl

loaded_rest : (rd : ℕ) (l : Result ℕ Access) (f : ℕ → ℕ) (r : Registers) → RegistersRest (gets_loaded rd l f r) r
loaded_rest rd (Ok v) f r = λ n. absurd (n refl)
loaded_rest rd (Err e) f r = λ n. refl

with_memory_rests : (m : Machine) (o : Stepped × Registers) → RegistersRest o m.regs → Rests (with_memory m.memory o) m
with_memory_rests m o h = λ n. ap (λ (r : Registers). record m { regs = r }) (h n)

compares_rest : (o : Op) (i : Insn) (m : Machine) → Rests (with_memory m.memory (compares o i m.regs)) m
compares_rest o i m = with_memory_rests m _ (branches_rest (is_taken o (register m.regs i.rs1) (register m.regs i.rs2)) (sum m.regs.pc (immediate_word i)) m.regs)

loads_rest : (o : Op) (i : Insn) (m : Machine) → Rests (with_memory m.memory (loads o i m.regs m.memory)) m
loads_rest o i m = with_memory_rests m _ (loaded_rest i.rd (value_at m.memory (sum (register m.regs i.rs1) (immediate_word i)) (width_of o) Read) (extended o) m.regs)

stored_or_not : (b : Bool) (x m : Machine) → Rests (if b then (ends.On, x) else fault kinds.Store m) m
stored_or_not true x m = λ n. absurd (n refl)
stored_or_not false x m = λ n. refl

stores_rest : (o : Op) (i : Insn) (m : Machine) → Rests (stores o i m) m
stores_rest o i m = stored_or_not (holds m.memory.regions (sum (register m.regs i.rs1) (immediate_word i)) (byte_count (width_of o)) Write) _ m

reserved_or_not : (b : Bool) (x r : Registers) → RegistersRest (if b then (ends.On, x) else (ends.Fault kinds.Load, r)) r
reserved_or_not true x r = λ n. absurd (n refl)
reserved_or_not false x r = λ n. refl

load_reserved_rests : (i : Insn) (m : Machine) → Rests (with_memory m.memory (load_reserved i m.regs m.memory)) m
load_reserved_rests i m = with_memory_rests m _ (reserved_or_not (is_word_at m.memory (register m.regs i.rs1) Read) _ m.regs)

tried_or_not : (b c : Bool) (x y m : Machine) → Rests (if b then (if c then (ends.On, x) else (ends.On, y)) else fault kinds.Store m) m
tried_or_not true true x y m = λ n. absurd (n refl)
tried_or_not true false x y m = λ n. absurd (n refl)
tried_or_not false c x y m = λ n. refl

store_conditional_rests : (i : Insn) (m : Machine) → Rests (store_conditional i m) m
store_conditional_rests i m = tried_or_not (is_word_at m.memory (register m.regs i.rs1) Write) (is_reserved m.regs.reserved (register m.regs i.rs1)) _ _ m

combines_rests : (o : Op) (i : Insn) (m : Machine) → Rests (combines o i m) m
combines_rests o i m = stored_or_not (is_word_at m.memory (register m.regs i.rs1) Write && holds m.memory.regions (register m.regs i.rs1) 4 Read) _ m

-- an instruction that ends in no `On` has changed nothing
pub effect_rests : (o : Op) (i : Insn) (m : Machine) → Rests (effect o i m) m
effect_rests Jal i m = with_memory_rests m _ (jumps_rest i.rd (sum m.regs.pc (immediate_word i)) m.regs)
effect_rests Jalr i m = with_memory_rests m _ (jumps_rest i.rd (sum (register m.regs i.rs1) (immediate_word i) / 2 * 2) m.regs)
effect_rests Beq i m = compares_rest Beq i m
effect_rests Bne i m = compares_rest Bne i m
effect_rests Blt i m = compares_rest Blt i m
effect_rests Bge i m = compares_rest Bge i m
effect_rests Bltu i m = compares_rest Bltu i m
effect_rests Bgeu i m = compares_rest Bgeu i m
effect_rests Lb i m = loads_rest Lb i m
effect_rests Lh i m = loads_rest Lh i m
effect_rests Lw i m = loads_rest Lw i m
effect_rests Lbu i m = loads_rest Lbu i m
effect_rests Lhu i m = loads_rest Lhu i m
effect_rests Sb i m = stores_rest Sb i m
effect_rests Sh i m = stores_rest Sh i m
effect_rests Sw i m = stores_rest Sw i m
effect_rests Ecall i m = λ n. refl
effect_rests Ebreak i m = λ n. refl
effect_rests LoadReserved i m = load_reserved_rests i m
effect_rests StoreConditional i m = store_conditional_rests i m
effect_rests AmoSwap i m = combines_rests AmoSwap i m
effect_rests AmoAdd i m = combines_rests AmoAdd i m
effect_rests AmoXor i m = combines_rests AmoXor i m
effect_rests AmoAnd i m = combines_rests AmoAnd i m
effect_rests AmoOr i m = combines_rests AmoOr i m
effect_rests AmoMin i m = combines_rests AmoMin i m
effect_rests AmoMax i m = combines_rests AmoMax i m
effect_rests AmoMinu i m = combines_rests AmoMinu i m
effect_rests AmoMaxu i m = combines_rests AmoMaxu i m
effect_rests _ i m = λ n. absurd (n refl)

executed_rests : (d : Option Insn) (m : Machine) → Rests (executed d m) m
executed_rests None m = λ n. refl
executed_rests (Some i) m = effect_rests i.op i m

fetched_rests : (l : Result ℕ Access) (m : Machine) → Rests (fetched l m) m
fetched_rests (Ok w) m = executed_rests (decoded w) m
fetched_rests (Err e) m = λ n. refl

-- what a step does once its instruction is found, or isn't
abbrev pub found_effect : Result (Option Insn) Access → Machine → StepResult
found_effect (Ok found) m = executed found m
found_effect (Err e) m = fault kinds.Fetch m

-- an instruction that was found is what the step does
found_is : (b : Bool) (w a : ℕ) (found : Result (Option Insn) Access) (m : Machine) → found ≡ (if b then Ok (decoded w) else Err (record { 0 = a })) → fetched (if b then Ok w else Err (record { 0 = a })) m ≡ found_effect found m
found_is true w a found m e = rw e refl
found_is false w a found m e = rw e refl

pub found_step : (m : Machine) (found : Result (Option Insn) Access) → found ≡ insn_at m.memory m.regs.pc → guest_step m ≡ found_effect found m
unfolding guest_step
found_step m found e = found_is (holds m.memory.regions m.regs.pc 4 Execute) (little (bytes_at m.memory.bytes m.regs.pc 4)) m.regs.pc found m e

-- the same where finding it has kept the memory
pub found_anew : (regs : Registers) (memory after : Image) (found : Result (Option Insn) Access) → found ≡ insn_at memory regs.pc → after ≡ memory → guest_step (record { regs = regs; memory = memory }) ≡ found_effect found (record { regs = regs; memory = after })
found_anew regs memory after found e same = found_step (record { regs = regs; memory = memory }) found e ∙ ap (λ (x : Image). found_effect found (record { regs = regs; memory = x })) (sym same)

pub known_step : (m : Machine) (i : Insn) → insn_at m.memory m.regs.pc ≡ Ok (Some i) → guest_step m ≡ effect i.op i m
known_step m i e = found_step m (Ok (Some i)) (sym e)

-- what ends in no `On` has changed nothing
pub step_rests : (m : Machine) → (guest_step m).0 ≢ On → (guest_step m).1 ≡ m
unfolding guest_step
step_rests m = fetched_rests (value_at m.memory m.regs.pc Four Execute) m

-- the same of a step's end and machine
pub rests : (s : Stepped) (a m : Machine) → (s, a) ≡ guest_step m → s ≢ On → a ≡ m
rests s a m e n = ap (λ (o : StepResult). o.1) e ∙ step_rests m (λ h. n (ap (λ (o : StepResult). o.0) e ∙ h))
