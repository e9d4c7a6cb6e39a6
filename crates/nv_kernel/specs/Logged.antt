-- What a kernel keeps from call to call, whatever answers its calls.
use Rattle.std.specs.Prelude.{◌≡◌, ◌≢◌, ℕ, ◌<◌, List, Option, None}
use Rattle.nv_calls.specs.Calls.{Request, Entry}
use Rattle.nv_calls.specs.Logs.{Start, IsLawful, IsLegal, ended_after}
use Rattle.nv_script.specs.Scripts.{Setup}
use Rattle.nv_kernel.specs.Kernel.{Spare, CanHold}

-- The log, what the script gave, the memory of the event that is made for the next call, and what answers.
pub record Logged (A : Type 0) : Type 0 where
  pub log : List Entry
  pub setup : Setup
  pub spare : Option Spare
  pub answers : A

-- there is memory for the event of a call, and what answers is ready for it
pub record IsReady {A : Type 0} (ready : A → Request → Type 0) (k : Logged A) (c : Request) : Type 0 where
  pub event : CanHold k.spare c
  pub answer : ready k.answers c

-- the log is one of this start, with memory for one more event where one is made, and it says how the process ended
pub record IsLogged (start : Start) (log : List Entry) (len capacity : ℕ) (spare : Option Spare) (end : Option ℕ) : Type 0 where
  pub legal : IsLegal start log
  pub lawful : IsLawful log
  pub reserved : spare ≢ None → len < capacity
  pub end_is : end ≡ ended_after log
