-- How the files of a version that follows a trace are read, and why it doesn't follow.
use Rattle.std.specs.Prelude.{◌≡◌, ◌≢◌, ℕ, Bool, false, List, Option, Result, Ok, Err}
use Rattle.nv_outside.specs.Counts.{Rose}
use Rattle.nv_outside.specs.Told.{Told}
use Rattle.nv_driver.specs.Words.{Trail}
use Rattle.nv_bpf.specs.declared.op.Op.{Op}
use Rattle.nv_calls.specs.Calls.{Entry}
use Rattle.nv_machine.specs.Guest.{Machine}
use Rattle.nv_replay.specs.Version.{Running, IsFresh}
use Rattle.nv_script.specs.Scripts.{Setup}
use Rattle.nv_arriving.specs.Scripted.{start_from}
use Rattle.nv_threads.specs.Threads.{Proc, threads, started}
use Rattle.nv_trace.specs.Checks.{AreSoundEvents}
use Rattle.nv_driver.specs.Found.{Found, AgreesWithin, FILE_LIMIT, TookMore}
use Rattle.nv_driver.specs.Outcome.{Outcome, NoMemory, limit_on}
use Rattle.nv_driver.specs.Due.{lack_outcome}
use Rattle.nv_driver.specs.Traced.{TraceFinds, AreTraceFound, Traced, Lack, Unreadable, Refused, traced, trace_of_file, machine_traced}
use Rattle.nv_driver.specs.declared.refusal.Place.{Place}
use Rattle.nv_driver.specs.declared.refusal.Place.TheVariants.{Trace}
use Rattle.nv_driver.specs.declared.refusal.Cause.TheVariants.{Long}
use Rattle.nv_driver.specs.declared.refusal.Refusal.{Refusal}
use Rattle.nv_driver.specs.declared.refusal.Refusal.TheVariants as refusal

-- something is found that agrees with what is told, and gives this
pub record Gives {X : Type 0} (step : Found → Result X Lack) (limit : ℕ) (told : Told) (given : Result X Lack) : Type 0 where
  pub found : Found
  pub agrees : AgreesWithin limit told found
  pub is : step found ≡ given

-- a file with this limit gives nothing: for want of memory, or a read failed, or it is refused
abbrev pub StepRefused : {X : Type 0} → Refusal → Place → ℕ → (Found → Result X Lack) → Told → ℕ → ℕ → ℕ → ℕ → Type 0
StepRefused refusal.Memory place limit step told before now taken later = now ≡ before
StepRefused (refusal.Unreadable at_place) place limit step told before now taken later = Gives step limit told (Err (Unreadable at_place)) × Rose before now
StepRefused (refusal.Input at_place cause) place limit step told before now taken later =
    (at_place ≡ place) × Gives step limit told (Err (Refused at_place cause)) × (now ≡ before) × (cause ≡ Long → TookMore limit taken later)

-- bytes are no trace, or not one of this script, or memory is wanted
abbrev pub IsTraceRefusal : Refusal → Setup → List ℕ → Type 0
IsTraceRefusal refusal.Memory setup bytes = Unit {0}
IsTraceRefusal (refusal.Unreadable place) setup bytes = ⊥
IsTraceRefusal (refusal.Input place cause) setup bytes = (place ≡ Trace) × (cause ≢ Long) × (trace_of_file setup bytes ≡ Err cause)

-- something is found at each place that agrees with what is told, and over that the files come to this
pub record TrailComes (trail : Trail) (holds : List ℕ → Told) (given : Result Traced Lack) : Type 0 where
  pub finds : TraceFinds
  pub agree : AreTraceFound trail holds finds
  pub is : traced trail finds ≡ given

-- Why a version doesn't follow a trace: for want of memory; or a read failed; or a file is refused.
abbrev pub TrailRefused : Refusal → Trail → (List ℕ → Told) → ℕ → ℕ → ℕ → ℕ → Type 0
TrailRefused refusal.Memory trail holds before now taken later = now ≡ before
TrailRefused (refusal.Unreadable place) trail holds before now taken later = TrailComes trail holds (Err (Unreadable place)) × Rose before now
TrailRefused (refusal.Input place cause) trail holds before now taken later =
    TrailComes trail holds (Err (Refused place cause)) × (now ≡ before) × (cause ≡ Long → TookMore (limit_on place trail) taken later)

-- what a refusal has the call come to
abbrev pub refused_outcome : Refusal → Trail → Outcome
refused_outcome refusal.Memory trail = NoMemory
refused_outcome (refusal.Unreadable place) trail = lack_outcome trail (Unreadable place)
refused_outcome (refusal.Input place cause) trail = lack_outcome trail (Refused place cause)

-- the version is the one of these bytes, with so many instructions, or so many after each answer, and never goes on ahead of the log
pub record IsFollower (trail : Trail) (budget : ℕ) (renews : Bool) (setup : Setup) (version : Running Proc) (told : Told) : Type 0 where
  pub machine : Machine
  pub gives : Gives (machine_traced trail setup) FILE_LIMIT told (Ok machine)
  pub begins : version.at.process ≡ started machine budget renews setup.polls
  pub fresh : IsFresh threads trail.index version
  pub settled : version.eager ≡ false

-- a filter, a log that the kernel of the script has served, and a version that is ready to follow it, to which the files come
pub record IsTraced (trail : Trail) (budget : ℕ) (renews : Bool) (holds : List ℕ → Told) (setup : Setup) (rules : Option (List Op)) (log : List Entry) (version : Running Proc) : Type 0 where
  pub machine : Machine
  pub comes : TrailComes trail holds (Ok (record { setup = setup; rules = rules; log = log; machine = machine }))
  pub begins : version.at.process ≡ started machine budget renews setup.polls
  pub fresh : IsFresh threads trail.index version
  pub settled : version.eager ≡ false
  pub sound : AreSoundEvents (start_from setup) log
