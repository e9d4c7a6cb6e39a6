-- The code's values as the definitions see them.
use Rattle.std.specs.Prelude.{List, [], ◌∷◌, Option, None, Some, Result, Ok, Err}
use Rattle.std.specs.declared.alloc.AllocError.{AllocError}
use Rattle.nv_script.specs.declared.arrival.Arrival.{Arrival}
use Rattle.nv_script.specs.declared.arrival.Arrival.TheVariants as code
use Rattle.nv_script.specs.declared.arrival.ArrivalCause.{ArrivalCause}
use Rattle.nv_script.specs.declared.outside.Said.{Said}
use Rattle.nv_script.specs.declared.outside.Said.TheVariants as says
use Rattle.nv_script.specs.Arrivals as rule
use Rattle.nv_script.specs.Doings as doing

abbrev pub view : Arrival → rule.Arrival
view (code.Input bytes) = rule.Input bytes.items
view code.InputEnd = rule.InputEnd
view code.ClientsEnd = rule.ClientsEnd
view (code.Connect port) = rule.Connect port
view (code.Data n bytes) = rule.Data n bytes.items
view (code.End n) = rule.End n
view (code.Time seconds nanos) = rule.Time seconds nanos

abbrev pub result_view : Result Arrival ArrivalCause → Result rule.Arrival ArrivalCause
result_view (Ok arrival) = Ok (view arrival)
result_view (Err cause) = Err cause

abbrev pub said_view : Said → doing.Said
said_view (says.Accepted i) = doing.Accepted i
said_view (says.Sent i bytes) = doing.Sent i bytes.now
said_view (says.Closed i) = doing.Closed i
said_view (says.Printed bytes) = doing.Printed bytes.now

-- what the next arrival adds to what was done; nothing where there is none or memory was wanted
abbrev pub taking : Result (Option Arrival) AllocError → List doing.Doing
taking (Ok (Some arrival)) = doing.Takes (view arrival) ∷ []
taking (Ok None) = []
taking (Err error) = []
