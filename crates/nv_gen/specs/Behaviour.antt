-- What a guest does, as its kernel sees it: the calls that it makes, whatever they are answered, and how it ends.
use Rattle.std.specs.Prelude.{◌≡◌, ℕ, ℤ, List, [], ◌∷◌, length, false}
use Rattle.nv_calls.specs.Calls.{Request}
use Rattle.nv_machine.specs.declared.outcome.Stepped.{Stepped}
use Rattle.nv_machine.specs.declared.outcome.Stepped.TheVariants as ends
use Rattle.nv_machine.specs.declared.outcome.FaultKind.TheVariants as kinds
use Rattle.nv_machine.specs.Guest.{Machine}
use Rattle.nv_guest.specs.Calls.{call_at, with_answer}
use Rattle.nv_guest.specs.Threads.{run}
use Rattle.nv_gen.specs.Made.{Call, Write, Getuid, Ending, Breaks, Exits, Course}

-- the call of thread 100 as the log has it; the address of the bytes counts as 0
abbrev pub request_of : Call → Request
request_of (Write bytes) = record { tid = 100; nr = 64; args = 1 ∷ 0 ∷ length bytes ∷ 0 ∷ 0 ∷ 0 ∷ []; bad = false; payload = bytes }
request_of Getuid = record { tid = 100; nr = 174; args = 0 ∷ 0 ∷ 0 ∷ 0 ∷ 0 ∷ 0 ∷ []; bad = false; payload = [] }

abbrev pub exit_request : ℕ → Request
exit_request status = record { tid = 100; nr = 94; args = status ∷ 0 ∷ 0 ∷ 0 ∷ 0 ∷ 0 ∷ []; bad = false; payload = [] }

-- the machine goes on to its next call or fault, which is this one
pub record Stops (m : Machine) (how : Stepped) (at : Machine) : Type 0 where
  pub most : ℕ
  pub way : (run most m).1 ≡ how
  pub place : (run most m).2 ≡ at

-- it goes on to this call, and after any answer something holds
pub record Asks (m : Machine) (asked : Request) (Later : Machine → Type 0) : Type 0 where
  pub at : Machine
  pub stops : Stops m ends.Call at
  pub call : call_at at 100 ≡ asked
  pub later : (ret : ℤ) (bytes : List ℕ) → Later (with_answer at ret bytes)

-- it goes on to a breakpoint
pub record Halts (m : Machine) : Type 0 where
  pub at : Machine
  pub stops : Stops m (ends.Fault kinds.Breakpoint) at

abbrev pub Closes : Machine → Ending → Type 0
Closes m Breaks = Halts m
Closes m (Exits status) = Asks m (exit_request status) (λ _. Unit {0})

-- it makes these calls, one after the other and no others, and then ends so
abbrev pub Makes : Machine → List Call → Ending → Type 0
Makes m [] ending = Closes m ending
Makes m (call ∷ calls) ending = Asks m (request_of call) (λ next. Makes next calls ending)

-- it does what the course says
abbrev pub Does : Machine → Course → Type 0
Does m c = Makes m c.calls c.ending
