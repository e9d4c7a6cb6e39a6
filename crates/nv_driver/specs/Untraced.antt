-- Why a trace is refused, by its fault.
use Rattle.std.specs.Prelude.{◌≡◌, ◌≢◌}
use Rattle.nv_trace.specs.declared.fault.TraceFault.{TraceFault}
use Rattle.nv_trace.specs.declared.fault.TraceFault.TheVariants.{Memory as TraceMemory}
use Rattle.nv_trace.specs.declared.fault.CheckFault.{CheckFault}
use Rattle.nv_trace.specs.declared.fault.CheckFault.TheVariants.{Memory as CheckMemory}
use Rattle.nv_driver.specs.declared.refusal.Place.TheVariants.{Trace}
use Rattle.nv_driver.specs.declared.refusal.Cause.TheVariants as causes
use Rattle.nv_driver.specs.declared.refusal.Refusal.{Refusal}
use Rattle.nv_driver.specs.declared.refusal.Refusal.TheVariants.{Memory, Unreadable, Input}

-- bytes that are no trace
abbrev pub IsByTrace : TraceFault → Refusal → Type 0
IsByTrace fault Memory = fault ≡ TraceMemory
IsByTrace fault (Unreadable place) = ⊥
IsByTrace fault (Input place cause) = (place ≡ Trace) × (cause ≡ causes.Trace fault) × (fault ≢ TraceMemory)

-- a trace that the kernel of the script doesn't come to
abbrev pub IsByCheck : CheckFault → Refusal → Type 0
IsByCheck fault Memory = fault ≡ CheckMemory
IsByCheck fault (Unreadable place) = ⊥
IsByCheck fault (Input place cause) = (place ≡ Trace) × (cause ≡ causes.Check fault) × (fault ≢ CheckMemory)
