use denote.Exit.{no}
use denote.Param.Send.{param_send, arg_send}
use Rattle.std.proofs.Common.{◌≡◌, List, map, sym, subst}
use Rattle.nv_calls.specs.declared.calls.Event.{Event}
use Rattle.nv_calls.specs.Calls.{entry}
use Rattle.nv_trace.specs.Checks.{AreStamped}
use Rattle.nv_trace.proofs.Recording.{recordable_stamped}
use Rattle.nv_call_tests.proofs.Sending.{kernel_send}
use Rattle.nv_call_tests.proofs.traces.check_fault.Goals as goal

pub check-requires-send-K : goal.check-requires-send-K
check-requires-send-K c κs = param_send 0 _ (arg_send _ no _ kernel_send)

pub check-requires-clause-stamped : goal.check-requires-clause-stamped
check-requires-clause-stamped c κs =
    subst (λ (xs : List Event). AreStamped (map entry xs)) (sym c.deref.ensures.value)
    (recordable_stamped (map entry c.in-Ok.events.items) c.in-Ok.ensures.log.trace.recordable)
