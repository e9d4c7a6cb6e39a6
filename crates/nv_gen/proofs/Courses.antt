-- A machine at the code of a course does what the course says.
use Rattle.std.proofs.Common.{◌≡◌, ℕ, ◌+◌, ◌<◌, List, [], ◌∷◌, ◌++◌, length, refl, sym, subst, ◌∙◌, arith}
use Rattle.std.specs.Prelude.{slice_index, slice_set}
use Rattle.std.specs.Int.{w32, cast_unsigned}
use Rattle.std.specs.List.{flat_map}
use Rattle.nv_isa.specs.declared.op.Insn.{Insn}
use Rattle.nv_memory.specs.Image.{Image}
use Rattle.nv_machine.specs.declared.outcome.Stepped.TheVariants as ends
use Rattle.nv_machine.specs.Guest.{Machine}
use Rattle.nv_gen.specs.Made.{Call, Write, Getuid, Ending, Breaks, Exits}
use Rattle.nv_gen.specs.Programs.{write_insns, insns_of, last_insns}
use Rattle.nv_gen.specs.Behaviour.{Stops, Makes}
use Rattle.nv_gen.proofs.Steps.{state, StandsAt, sets-step, points-step, ecall-step, ebreak-step, stops-on, stops-call, stops-break}
use Rattle.nv_gen.proofs.Calling.{AreRegisters, misses, hits, are-set, HoldsText, calls-write, calls-getuid, calls-exit, answered-state, keeps-write, keeps-getuid}

-- the instructions stand one after the other
abbrev pub Stand : Image → ℕ → List Insn → Type 0
Stand memory pc [] = Unit {0}
Stand memory pc (i ∷ is) = StandsAt memory pc i × Stand memory (pc + 4) is

-- the bytes of each write stand at their address
abbrev pub HoldsTexts : Image → List Call → Type 0
HoldsTexts memory [] = Unit {0}
HoldsTexts memory (Write bytes ∷ calls) = HoldsText memory bytes × HoldsTexts memory calls
HoldsTexts memory (Getuid ∷ calls) = HoldsTexts memory calls

abbrev pub IsShort : Ending → Type 0
IsShort Breaks = Unit {0}
IsShort (Exits status) = status < 2048

-- the registers at a call
at_write : List ℕ → ℕ → List ℕ
at_write x size = slice_set (slice_set (slice_set (slice_set x 10 1) 11 65536) 12 size) 17 64

record WriteRegisters (x : List ℕ) (size : ℕ) (y : List ℕ) : Type 0 where
  are : AreRegisters y
  a0 : slice_index y 10 ≡ 1
  a1 : slice_index y 11 ≡ 65536
  a2 : slice_index y 12 ≡ size
  a7 : slice_index y 17 ≡ 64

write-registers : (x : List ℕ) (size : ℕ) → AreRegisters x → WriteRegisters x size (at_write x size)
unfolding at_write
write-registers x size are =
    let x1 : List ℕ = slice_set x 10 1 in
    let x2 : List ℕ = slice_set x1 11 65536 in
    let x3 : List ℕ = slice_set x2 12 size in
    let are1 : AreRegisters x1 = are-set x 10 1 (omega arith) are in
    let are2 : AreRegisters x2 = are-set x1 11 65536 (omega arith) are1 in
    let are3 : AreRegisters x3 = are-set x2 12 size (omega arith) are2 in
    record {
      are = are-set x3 17 64 (omega arith) are3;
      a0 = misses x3 17 10 64 (omega arith) ∙ misses x2 12 10 size (omega arith) ∙ misses x1 11 10 65536 (omega arith) ∙ hits x 10 1 (omega arith) are;
      a1 = misses x3 17 11 64 (omega arith) ∙ misses x2 12 11 size (omega arith) ∙ hits x1 11 65536 (omega arith) are1;
      a2 = misses x3 17 12 64 (omega arith) ∙ hits x2 12 size (omega arith) are2;
      a7 = hits x3 17 64 (omega arith) are3;
    }

-- four instructions and the call
stops-write : (x : List ℕ) (pc : ℕ) (memory : Image) (size : ℕ) (rest : List Insn) → size < 2048 → AreRegisters x → Stand memory pc (write_insns size ++ rest)
    → Stops (state x pc memory) ends.Call (state (at_write x size) (pc + 4 + 4 + 4 + 4) memory)
unfolding at_write
stops-write x pc memory size rest short are stand =
    let x1 : List ℕ = slice_set x 10 1 in
    let x2 : List ℕ = slice_set x1 11 65536 in
    let x3 : List ℕ = slice_set x2 12 size in
    let are1 : AreRegisters x1 = are-set x 10 1 (omega arith) are in
    let are2 : AreRegisters x2 = are-set x1 11 65536 (omega arith) are1 in
    let are3 : AreRegisters x3 = are-set x2 12 size (omega arith) are2 in
    stops-on _ _ _ ends.Call (sets-step x pc memory 10 1 refl (omega arith) (omega arith) are.zero_first stand.0)
    (stops-on _ _ _ ends.Call (points-step x1 (pc + 4) memory 11 refl (omega arith) stand.1.0)
    (stops-on _ _ _ ends.Call (sets-step x2 (pc + 4 + 4) memory 12 size refl (omega arith) short are2.zero_first stand.1.1.0)
    (stops-on _ _ _ ends.Call (sets-step x3 (pc + 4 + 4 + 4) memory 17 64 refl (omega arith) (omega arith) are3.zero_first stand.1.1.1.0)
    (stops-call _ _ (ecall-step (slice_set x3 17 64) (pc + 4 + 4 + 4 + 4) memory stand.1.1.1.1.0)))))

pub makes : (calls : List Call) (ending : Ending) (x : List ℕ) (pc : ℕ) (memory : Image) → AreRegisters x → HoldsTexts memory calls → IsShort ending
    → Stand memory pc (flat_map insns_of calls ++ last_insns ending) → Makes (state x pc memory) calls ending
makes [] Breaks x pc memory are texts short stand = record { at = state x pc memory; stops = stops-break _ _ (ebreak-step x pc memory stand.0) }
makes [] (Exits status) x pc memory are texts short stand =
    let x1 : List ℕ = slice_set x 10 status in
    let are1 : AreRegisters x1 = are-set x 10 status (omega arith) are in
    let x2 : List ℕ = slice_set x1 17 94 in
    record {
      at = state x2 (pc + 4 + 4) memory;
      stops = stops-on _ _ _ ends.Call (sets-step x pc memory 10 status refl (omega arith) short are.zero_first stand.0)
          (stops-on _ _ _ ends.Call (sets-step x1 (pc + 4) memory 17 94 refl (omega arith) (omega arith) are1.zero_first stand.1.0)
          (stops-call _ _ (ecall-step x2 (pc + 4 + 4) memory stand.1.1.0)));
      call = calls-exit x2 (pc + 4 + 4) memory status (misses x1 17 10 94 (omega arith) ∙ hits x 10 status (omega arith) are) (hits x1 17 94 (omega arith) are1);
      later = λ ret bytes. tt;
    }
makes (Write bytes ∷ calls) ending x pc memory are texts short stand =
    let y : List ℕ = at_write x (length bytes) in
    let regs = write-registers x (length bytes) are in
    let at : ℕ = pc + 4 + 4 + 4 + 4 in
    record {
      at = state y at memory;
      stops = stops-write x pc memory (length bytes) (flat_map insns_of calls ++ last_insns ending) texts.0.few are stand;
      call = calls-write y at memory bytes texts.0 regs.a0 regs.a1 regs.a2 regs.a7;
      later = λ ret reply.
          subst (λ (m : Machine). Makes m calls ending)
          (sym (answered-state y at memory ret reply 64 regs.a7 (keeps-write (state y at memory) reply) stand.1.1.1.1.0.below))
          (makes calls ending (slice_set y 10 (cast_unsigned w32 ret)) (at + 4) memory (are-set y 10 (cast_unsigned w32 ret) (omega arith) regs.are) texts.1 short stand.1.1.1.1.1);
    }
makes (Getuid ∷ calls) ending x pc memory are texts short stand =
    let y : List ℕ = slice_set x 17 174 in
    let are1 : AreRegisters y = are-set x 17 174 (omega arith) are in
    let a7 : slice_index y 17 ≡ 174 = hits x 17 174 (omega arith) are in
    record {
      at = state y (pc + 4) memory;
      stops = stops-on _ _ _ ends.Call (sets-step x pc memory 17 174 refl (omega arith) (omega arith) are.zero_first stand.0) (stops-call _ _ (ecall-step y (pc + 4) memory stand.1.0));
      call = calls-getuid y (pc + 4) memory a7;
      later = λ ret reply.
          subst (λ (m : Machine). Makes m calls ending)
          (sym (answered-state y (pc + 4) memory ret reply 174 a7 (keeps-getuid (state y (pc + 4) memory) reply) stand.1.0.below))
          (makes calls ending (slice_set y 10 (cast_unsigned w32 ret)) (pc + 4 + 4) memory (are-set y 10 (cast_unsigned w32 ret) (omega arith) are1) texts short stand.1.1);
    }
