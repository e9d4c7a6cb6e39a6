-- Instructions that are known, one after another, with the address apart from the registers.
use Rattle.std.proofs.Common.{◌≡◌, ◌≢◌, ◌∙◌, ap, sym, ℕ, ◌+◌, ◌-◌, ◌<◌, Some, Ok, arith}
use Rattle.nv_isa.specs.declared.op.Insn.{Insn}
use Rattle.nv_isa.specs.declared.op.Op.{Op}
use Rattle.nv_isa.specs.declared.op.Op.TheVariants.{Ebreak}
use Rattle.nv_memory.specs.Image.{Image}
use Rattle.nv_memory.specs.Insns.{insn_at}
use Rattle.nv_memory.specs.Code.{code_start, code_address}
use Rattle.nv_machine.specs.declared.outcome.FaultKind.TheVariants as kinds
use Rattle.nv_machine.specs.declared.outcome.Stepped.TheVariants.{On, Fault}
use Rattle.nv_machine.specs.declared.outcome.Stepped.{Stepped}
use Rattle.nv_machine.specs.Registers.{Registers}
use Rattle.nv_machine.specs.Guest.{Machine, StepResult, effect, guest_step}
use Rattle.nv_machine.specs.Went.{at_pc}
use Rattle.nv_machine.proofs.GuestLaws.{known_step, effect_rests}
use Rattle.nv_machine.proofs.RegionsStay.{regions_stay}
use Rattle.nv_guest.specs.Guest.{machine_with}
use Rattle.nv_guest.specs.Threads.{run, more, MachineRan}
use Rattle.nv_guest.proofs.Running.{run_more}

-- after so many instructions the machine stands at this place of the code
pub record IsAt (most : ℕ) (before : Machine) (count : ℕ) (start : ℕ) (at : ℕ) (regs : Registers) (memory : Image) : Type 0 where
  pub ran : run most before ≡ more count (run (most - count) (machine_with (at_pc regs (code_address start at)) memory))
  pub begins : code_start memory.regions ≡ start

more_twice : (a b : ℕ) (r : MachineRan) → more a (more b r) ≡ more (a + b) r
more_twice a b r = let e : a + (b + r.0) ≡ a + b + r.0 = omega arith in ap (λ k. (k, r.1, r.2)) e

-- a run goes on where another has come to
pub run_from : (most count known : ℕ) (before now after : Machine) → run most before ≡ more count (run (most - count) now) → run (most - count) now ≡ more known (run (most - count - known) after)
    → run most before ≡ more (count + known) (run (most - (count + known)) after)
run_from most count known before now after e f =
    let left : most - count - known ≡ most - (count + known) = omega arith in
    e ∙ ap (more count) f ∙ more_twice count known (run (most - count - known) after) ∙ ap (λ n. more (count + known) (run n after)) left

-- what a known instruction does is what a step does
known_there : (start at : ℕ) (regs : Registers) (memory : Image) (i : Insn) → code_start memory.regions ≡ start → insn_at memory (code_address (code_start memory.regions) at) ≡ Ok (Some i)
    → guest_step (machine_with (at_pc regs (code_address start at)) memory) ≡ effect i.op i (machine_with (at_pc regs (code_address start at)) memory)
known_there start at regs memory i s k = known_step (machine_with (at_pc regs (code_address start at)) memory) i (ap (λ (n : ℕ). insn_at memory (code_address n at)) (sym s) ∙ k)

-- what is known of an instruction that was carried out: where it stood, and what came of it
pub record Carried (start at here : ℕ) (s : Stepped) (next : Machine) (regs : Registers) (memory : Image) (i : Insn) : Type 0 where
  pub stood : here ≡ code_address start at
  pub known : i.op ≢ Ebreak → insn_at memory (code_address (code_start memory.regions) at) ≡ Ok (Some i)
  pub done : (s, next) ≡ effect i.op i (machine_with (at_pc regs here) memory)

-- it is no EBREAK where it went on
goes_on : (i : Insn) (m next : Machine) (s : Stepped) → (s, next) ≡ effect i.op i m → s ≡ On → i.op ≢ Ebreak
goes_on i m next s e on = λ b. (let f : s ≡ Fault kinds.Breakpoint = ap (λ (o : StepResult). o.0) (e ∙ ap (λ (o : Op). effect o i m) b) in cc (f, on))

-- it was carried out at its place
was_there : (start at here : ℕ) (s : Stepped) (next : Machine) (regs : Registers) (memory : Image) (i : Insn) → Carried start at here s next regs memory i
    → (s, next) ≡ effect i.op i (machine_with (at_pc regs (code_address start at)) memory)
was_there start at here s next regs memory i w = w.done ∙ ap (λ (a : ℕ). effect i.op i (machine_with (at_pc regs a) memory)) w.stood

-- after one that went on
pub next_at : (most count start at here place pc : ℕ) (before : Machine) (s : Stepped) (regs after : Registers) (memory written : Image) (i : Insn) → IsAt most before count start at regs memory → count < most
    → Carried start at here s (machine_with (at_pc after pc) written) regs memory i → s ≡ On → code_address start place ≡ pc
    → IsAt most before (count + 1) start place after written
next_at most count start at here place pc before s regs after memory written i is h w on n =
    let there = was_there start at here s (machine_with (at_pc after pc) written) regs memory i w in
    let step = known_there start at regs memory i is.begins (w.known (goes_on i (machine_with (at_pc regs here) memory) (machine_with (at_pc after pc) written) s w.done on)) in
    let went : guest_step (machine_with (at_pc regs (code_address start at)) memory) ≡ (On, machine_with (at_pc after pc) written) = step ∙ sym there ∙ ap (λ (e : Stepped). (e, machine_with (at_pc after pc) written)) on in
    record {
      ran = rw n (is.ran ∙ run_more most count (machine_with (at_pc regs (code_address start at)) memory) (machine_with (at_pc after pc) written) h went);
      begins = ap (λ (o : StepResult). code_start o.1.memory.regions) w.done ∙ ap code_start (regions_stay i.op i (machine_with (at_pc regs here) memory)) ∙ is.begins;
    }

-- after one that ended in a call or a fault, which leaves the machine where it stood
pub ends_at : (most count start at here pc : ℕ) (before : Machine) (s : Stepped) (regs after : Registers) (memory written : Image) (i : Insn) → IsAt most before count start at regs memory
    → Carried start at here s (machine_with (at_pc after pc) written) regs memory i → s ≢ On
    → run most before ≡ more count (run (most - count) (machine_with (at_pc after pc) written))
ends_at most count start at here pc before s regs after memory written i is w n =
    let there = was_there start at here s (machine_with (at_pc after pc) written) regs memory i w in
    let stays : machine_with (at_pc after pc) written ≡ machine_with (at_pc regs (code_address start at)) memory = ap (λ (o : StepResult). o.1) there ∙ effect_rests i.op i (machine_with (at_pc regs (code_address start at)) memory) (λ h. n (ap (λ (o : StepResult). o.0) there ∙ h)) in
    is.ran ∙ ap (λ (m : Machine). more count (run (most - count) m)) (sym stays)
