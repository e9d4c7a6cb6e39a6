-- The texts of refusals.
use Rattle.std.specs.Prelude.{ℕ, List, ◌++◌, codes}
use Rattle.std.specs.Fmt.{decimal}
use Rattle.nv_trace.specs.declared.fault.TraceFault.{TraceFault}
use Rattle.nv_trace.specs.declared.fault.TraceFault.TheVariants.{Magic, Count, Short, Field, Extra, Memory}
use Rattle.nv_trace.specs.declared.fault.CheckFault.{CheckFault}
use Rattle.nv_trace.specs.declared.fault.CheckFault.TheVariants.{Ended, Shape, Thread, Reply}
use Rattle.nv_trace.specs.declared.fault.CheckFault.TheVariants as check

abbrev pub trace_text : TraceFault → List ℕ
trace_text Magic = codes "magic"
trace_text Count = codes "count"
trace_text (Short i) = codes "short " ++ decimal i
trace_text (Field i) = codes "field " ++ decimal i
trace_text Extra = codes "extra"
trace_text Memory = codes "memory"

abbrev pub check_text : CheckFault → List ℕ
check_text (Ended i) = codes "ended " ++ decimal i
check_text (Shape i) = codes "shape " ++ decimal i
check_text (Thread i) = codes "thread " ++ decimal i
check_text (Reply i) = codes "reply " ++ decimal i
check_text check.Memory = codes "memory"
