-- What a kernel keeps from call to call.
use Rattle.std.specs.Prelude.{◌≡◌, ◌≢◌, ℕ, ◌<◌, ◌≤◌, List, length, Option, Some, None}
use Rattle.nv_calls.specs.declared.calls.Event.{Event}
use Rattle.nv_calls.specs.Calls.{Request, Entry}
use Rattle.nv_calls.specs.Logs.{Start, IsLawful, IsLegal, live_after, ended_after}
use Rattle.nv_fs.specs.Reserved.{Disk}
use Rattle.nv_script.specs.Scripts.{Setup}
use Rattle.nv_kernel.specs.Crew.{Crew, IsCrew}
use Rattle.nv_kernel.specs.Reserved.{CanAnswer, most_out}

-- how many bytes an event has memory for: those that its call hands in, and those that it hands out
pub record Spare : Type 0 where
  pub handed_in : ℕ
  pub handed_out : ℕ

-- The log, what the script gave, the memory of the event that is made for the next call, and the files with theirs.
pub record KernelState : Type 0 where
  pub log : List Entry
  pub setup : Setup
  pub spare : Option Spare
  pub disk : Disk

abbrev pub spare_of : Event → Spare
spare_of e = record { handed_in = e.call.payload.capacity; handed_out = e.reply.payload.capacity }

-- there is memory for the event of a call
abbrev pub CanHold : Option Spare → Request → Type 0
CanHold None c = ⊥
CanHold (Some spare) c = (length c.payload ≤ spare.handed_in) × (most_out c ≤ spare.handed_out)

-- there is memory for the event of a call, and for what it leaves
pub record CanServe (k : KernelState) (c : Request) : Type 0 where
  pub event : CanHold k.spare c
  pub answer : CanAnswer k.disk c

pub record IsSound (start : Start) (log : List Entry) (len capacity : ℕ) (spare : Option Spare) (end : Option ℕ) (crew : Crew) : Type 0 where
  pub legal : IsLegal start log
  pub lawful : IsLawful log
  pub reserved : spare ≢ None → len < capacity
  pub live : live_after log ≡ crew.live
  pub crew_is : IsCrew crew
  pub end_is : end ≡ ended_after log
