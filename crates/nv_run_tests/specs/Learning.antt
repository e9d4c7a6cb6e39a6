-- What a learning kernel keeps from call to call.
use Rattle.std.specs.Prelude.{◌≡◌, ℕ, true, List, Option, is_some}
use Rattle.nv_calls.specs.Calls.{Request, Entry}
use Rattle.nv_kernel.specs.Kernel.{Spare, CanHold}
use Rattle.nv_run_tests.specs.Given.{is_input}

-- the log, what was given and isn't handed in yet, what the outside tells, and the memory of the event that is made for the next call
pub record KernelState : Type 0 where
  pub log : List Entry
  pub kept : Option (Option ℕ)
  pub told : Option (List (Option ℕ))
  pub spare : Option Spare

-- there is memory for the event of a call, and for a read of the input something is kept
pub record CanServe (k : KernelState) (c : Request) : Type 0 where
  pub event : CanHold k.spare c
  pub kept : is_input c ≡ true → is_some k.kept ≡ true
