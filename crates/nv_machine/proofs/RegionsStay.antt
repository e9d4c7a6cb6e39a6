-- An instruction moves no region.
use Rattle.std.proofs.Common.{◌≡◌, Bool, true, false, refl}
use Rattle.std.specs.Prelude.{if◌then◌else◌, ◌&&◌}
use Rattle.nv_isa.specs.declared.op.Op.{Op}
use Rattle.nv_isa.specs.declared.op.Op.TheVariants.{StoreConditional, AmoSwap, AmoAdd, AmoXor, AmoAnd, AmoOr, AmoMin, AmoMax, AmoMinu, AmoMaxu, Sb, Sh, Sw}
use Rattle.nv_isa.specs.declared.op.Insn.{Insn}
use Rattle.nv_memory.specs.declared.region.Right.TheVariants.{Read, Write}
use Rattle.nv_memory.specs.Bytes.{byte_count}
use Rattle.nv_memory.specs.Region.{holds}
use Rattle.nv_machine.specs.declared.outcome.Stepped.TheVariants as ends
use Rattle.nv_machine.specs.declared.outcome.FaultKind.TheVariants as kinds
use Rattle.nv_machine.specs.Effects.{sum}
use Rattle.nv_machine.specs.Guest.{Machine, fault, stores, is_word_at, is_reserved, store_conditional, combines, register, immediate_word, width_of, effect}

stored_or_not : (b : Bool) (x m : Machine) → x.memory.regions ≡ m.memory.regions → (if b then (ends.On, x) else fault kinds.Store m).1.memory.regions ≡ m.memory.regions
stored_or_not true x m e = e
stored_or_not false x m e = refl

tried_or_not : (b c : Bool) (x y m : Machine) → x.memory.regions ≡ m.memory.regions → y.memory.regions ≡ m.memory.regions → (if b then (if c then (ends.On, x) else (ends.On, y)) else fault kinds.Store m).1.memory.regions ≡ m.memory.regions
tried_or_not true true x y m e f = e
tried_or_not true false x y m e f = f
tried_or_not false c x y m e f = refl

store_stays : (o : Op) (i : Insn) (m : Machine) → (stores o i m).1.memory.regions ≡ m.memory.regions
store_stays o i m = stored_or_not (holds m.memory.regions (sum (register m.regs i.rs1) (immediate_word i)) (byte_count (width_of o)) Write) _ m refl

conditional_stays : (i : Insn) (m : Machine) → (store_conditional i m).1.memory.regions ≡ m.memory.regions
conditional_stays i m = tried_or_not (is_word_at m.memory (register m.regs i.rs1) Write) (is_reserved m.regs.reserved (register m.regs i.rs1)) _ _ m refl refl

combined_stays : (o : Op) (i : Insn) (m : Machine) → (combines o i m).1.memory.regions ≡ m.memory.regions
combined_stays o i m = stored_or_not (is_word_at m.memory (register m.regs i.rs1) Write && holds m.memory.regions (register m.regs i.rs1) 4 Read) _ m refl

pub regions_stay : (o : Op) (i : Insn) (m : Machine) → (effect o i m).1.memory.regions ≡ m.memory.regions
regions_stay Sb i m = store_stays Sb i m
regions_stay Sh i m = store_stays Sh i m
regions_stay Sw i m = store_stays Sw i m
regions_stay StoreConditional i m = conditional_stays i m
regions_stay AmoSwap i m = combined_stays AmoSwap i m
regions_stay AmoAdd i m = combined_stays AmoAdd i m
regions_stay AmoXor i m = combined_stays AmoXor i m
regions_stay AmoAnd i m = combined_stays AmoAnd i m
regions_stay AmoOr i m = combined_stays AmoOr i m
regions_stay AmoMin i m = combined_stays AmoMin i m
regions_stay AmoMax i m = combined_stays AmoMax i m
regions_stay AmoMinu i m = combined_stays AmoMinu i m
regions_stay AmoMaxu i m = combined_stays AmoMaxu i m
regions_stay _ i m = refl
