-- What answers where input arrives keeps from call to call.
use Rattle.std.specs.Prelude.{◌≡◌, Bool, true, false, List, take, drop, length, ◌++◌}
use Rattle.nv_calls.specs.Calls.{Request}
use Rattle.nv_calls.specs.Numbers.{syscall_of}
use Rattle.nv_script.specs.Scripts.{Setup}
use Rattle.nv_kernel.specs.Reserved as kernel
use Rattle.nv_sockets.specs.Reserved.{CanSend}
use Rattle.nv_script.specs.Arrivals.{Arrival}
use Rattle.nv_arriving.specs.Arrivals.{in_vain}
use Rattle.nv_arriving.specs.Arriving.{Stage, wait_of, taken}
use Rattle.nv_arriving.specs.declared.waiting.Intake.{Intake}
use Rattle.nv_arriving.specs.Timing.{until_of}
use Rattle.nv_arriving.specs.Reserved.{Room, CanTakeIn, IsKept}

-- what a kernel is made over: what the script gives, and what the outside told then
pub record Begun (T : Type 0) : Type 0 where
  pub setup : Setup
  pub told : T

-- which call it is and when its wait is over, how many arrivals it takes in at a stage, and whether it waits in vain there
abbrev pub intake_of : Stage → Request → Intake
intake_of g c = record { syscall = syscall_of c.nr; until = until_of g.here c; count = taken g c; vain = in_vain (wait_of g.here c) g.rest }

-- What the kernel holds and what has come and isn't taken in yet, the outside as the kernel was made and as it is, all that has come, what was last found of a
-- call, whether nothing more comes, whether what is said is kept, and the files and the sockets with their memory.
pub record Coming (O : Type 0) : Type 0 where
  pub stage : Stage
  pub begun : O
  pub outside : O
  pub came : List Arrival
  pub intake : Intake
  pub over : Bool
  pub keeps : Bool
  pub room : Room

-- what a kernel over it was made over, where a script gave this
abbrev pub begun_in : {O T : Type 0} → (O → T) → Setup → Coming O → Begun T
begun_in told setup g = record { setup = setup; told = told g.begun }

-- what a call takes in was found, there is memory for that and for what the call leaves, and it doesn't wait in vain while more may come
pub record CanServe {O : Type 0} (g : Coming O) (c : Request) : Type 0 where
  pub found : g.intake ≡ intake_of g.stage c
  pub takes : CanTakeIn g.room (take (taken g.stage c) g.stage.rest)
  pub answer : kernel.CanAnswer g.room.disk c
  pub sends : CanSend g.room.buffered c
  pub waits : g.over ≡ false → in_vain (wait_of g.stage.here c) g.stage.rest ≡ false

-- where what is said is kept, nothing of it was let go since
pub record KeepsOn {O : Type 0} (g h : Coming O) : Type 0 where
  pub still : h.keeps ≡ g.keeps
  pub all : g.keeps ≡ true → IsKept g.room → IsKept h.room

-- more stands behind what was there
abbrev pub after : {A : Type 0} → List A → List A → List A
after before now = drop (length before) now

abbrev pub Grew : {A : Type 0} → List A → List A → Type 0
Grew before now = now ≡ before ++ after before now
