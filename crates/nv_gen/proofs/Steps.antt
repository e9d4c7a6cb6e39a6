-- The instructions of the programs, one by one.
use Rattle.std.proofs.Common.{◌≡◌, ℕ, suc, ◌+◌, ◌%◌, ◌^◌, ◌<◌, false, ◌==◌, List, Option, None, Result, Ok, refl, ap, ◌∙◌, arith}
use Rattle.std.specs.Prelude.{pos, slice_index, slice_set}
use Rattle.std.specs.Int.{w32, cast_unsigned}
use Rattle.nv_isa.specs.declared.op.Insn.{Insn}
use Rattle.nv_isa.specs.Spelling.{HasWord, encoded}
use Rattle.nv_isa.proofs.Inverse.{decoded-encoded}
use Rattle.nv_memory.specs.declared.region.Access.{Access}
use Rattle.nv_memory.specs.declared.region.Width.TheVariants.{Four}
use Rattle.nv_memory.specs.declared.region.Right.TheVariants.{Execute}
use Rattle.nv_memory.specs.Image.{Image, value_at}
use Rattle.nv_machine.specs.declared.outcome.Stepped.{Stepped}
use Rattle.nv_machine.specs.declared.outcome.Stepped.TheVariants as ends
use Rattle.nv_machine.specs.declared.outcome.FaultKind.TheVariants as kinds
use Rattle.nv_machine.specs.Effects.{sum}
use Rattle.nv_machine.specs.Guest.{Machine, StepResult, fetched, executed, effect, guest_step}
use Rattle.nv_guest.specs.Threads.{run, unless_stopped}
use Rattle.nv_gen.specs.Programs.{sets, points, ecall, ebreak}
use Rattle.nv_gen.proofs.Fitting.{fits-sets, fits-points, fits-ecall, fits-ebreak}
use Rattle.nv_gen.specs.Behaviour.{Stops}

-- a machine by its parts
abbrev pub state : List ℕ → ℕ → Image → Machine
state x pc memory = record { regs = record { x = x; pc = pc; reserved = None }; memory = memory }

-- the instruction stands there and the next address is below 2^32
pub record StandsAt (memory : Image) (pc : ℕ) (i : Insn) : Type 0 where
  pub word : value_at memory pc Four Execute ≡ Ok (encoded i)
  pub below : pc + 4 < 2 ^ 32

step-at : (x : List ℕ) (pc : ℕ) (memory : Image) (i : Insn) → HasWord i → StandsAt memory pc i → guest_step (state x pc memory) ≡ effect i.op i (state x pc memory)
unfolding guest_step
step-at x pc memory i fits stands =
    ap (λ (r : Result ℕ Access). fetched r (state x pc memory)) stands.word ∙ ap (λ (d : Option Insn). executed d (state x pc memory)) (decoded-encoded i fits)

low : (n : ℕ) → n < 2 ^ 32 → n % 2 ^ 32 ≡ n
low n small = omega arith

unsigned : (n : ℕ) → n < 2 ^ 32 → cast_unsigned w32 (pos n) ≡ n
unsigned n small = refl

pub next-is : (pc : ℕ) → pc + 4 < 2 ^ 32 → sum pc 4 ≡ pc + 4
next-is pc below = low (pc + 4) below

loaded-number : (x : List ℕ) (value : ℕ) → value < 2048 → slice_index x 0 ≡ 0 → sum (slice_index x 0) (cast_unsigned w32 (pos value)) ≡ value
loaded-number x value short zero_first = let e = unsigned value (omega arith) in rw (zero_first, e) (low (0 + value) (omega arith) ∙ omega arith)

pub sets-step : (x : List ℕ) (pc : ℕ) (memory : Image) (rd value : ℕ) → (rd == 0) ≡ false → rd < 32 → value < 2048 → slice_index x 0 ≡ 0 → StandsAt memory pc (sets rd value)
    → guest_step (state x pc memory) ≡ (ends.On, state (slice_set x rd value) (pc + 4) memory)
sets-step x pc memory rd value some small short zero_first stands =
    step-at x pc memory (sets rd value) (fits-sets rd value small short) stands
    ∙ rw (some, loaded-number x value short zero_first, next-is pc stands.below) refl

pub points-step : (x : List ℕ) (pc : ℕ) (memory : Image) (rd : ℕ) → (rd == 0) ≡ false → rd < 32 → StandsAt memory pc (points rd)
    → guest_step (state x pc memory) ≡ (ends.On, state (slice_set x rd 65536) (pc + 4) memory)
points-step x pc memory rd some small stands =
    step-at x pc memory (points rd) (fits-points rd small) stands ∙ rw (some, next-is pc stands.below) refl

pub ecall-step : (x : List ℕ) (pc : ℕ) (memory : Image) → StandsAt memory pc ecall → guest_step (state x pc memory) ≡ (ends.Call, state x pc memory)
ecall-step x pc memory stands = step-at x pc memory ecall fits-ecall stands

pub ebreak-step : (x : List ℕ) (pc : ℕ) (memory : Image) → StandsAt memory pc ebreak → guest_step (state x pc memory) ≡ (ends.Fault kinds.Breakpoint, state x pc memory)
ebreak-step x pc memory stands = step-at x pc memory ebreak fits-ebreak stands

-- ---- one instruction after another

pub stops-on : (m next at : Machine) (how : Stepped) → guest_step m ≡ (ends.On, next) → Stops next how at → Stops m how at
unfolding run
stops-on m next at how step later = record {
  most = suc later.most;
  way = ap (λ (o : StepResult). (unless_stopped (run later.most) o).1) step ∙ later.way;
  place = ap (λ (o : StepResult). (unless_stopped (run later.most) o).2) step ∙ later.place;
}

pub stops-call : (m at : Machine) → guest_step m ≡ (ends.Call, at) → Stops m ends.Call at
unfolding run
stops-call m at step = record {
  most = 1;
  way = ap (λ (o : StepResult). (unless_stopped (run 0) o).1) step;
  place = ap (λ (o : StepResult). (unless_stopped (run 0) o).2) step;
}

pub stops-break : (m at : Machine) → guest_step m ≡ (ends.Fault kinds.Breakpoint, at) → Stops m (ends.Fault kinds.Breakpoint) at
unfolding run
stops-break m at step = record {
  most = 1;
  way = ap (λ (o : StepResult). (unless_stopped (run 0) o).1) step;
  place = ap (λ (o : StepResult). (unless_stopped (run 0) o).2) step;
}
