use denote.Exit.{no}
use denote.Param.Send.{param_send, arg_send}
use Rattle.std.proofs.Common.{ap, subst, sym, List, map}
use Rattle.std.proofs.lemmas.Result.{err_from_is_err_and}
use Rattle.nv_calls.specs.declared.calls.Event.{Event}
use Rattle.nv_calls.specs.Calls.{entry}
use Rattle.nv_calls.specs.Logs.{Start}
use Rattle.nv_script.specs.Views.{setup_of}
use Rattle.nv_arriving.specs.Scripted.{start_from}
use Rattle.nv_trace.specs.Checks.{AreStamped, AreSoundEvents}
use Rattle.nv_trace.specs.Trace.{IsRead}
use Rattle.nv_trace.proofs.Recording.{recordable_stamped}
use Rattle.nv_driver.proofs.Trailing.{trace_given, trace_refused, check_refused}
use Rattle.nv_arriving.proofs.Sending.{listed_send, scripted_send}
use Rattle.nv_driver.proofs.trails.kernel_in.Goals as goal

pub make-requires-send-A : goal.make-requires-send-A
make-requires-send-A c κs = param_send 0 _ (arg_send _ no _ listed_send)

pub check-requires-send-K : goal.check-requires-send-K
check-requires-send-K c κs = param_send 0 _ (arg_send _ no _ scripted_send)

pub check-requires-clause-stamped : goal.check-requires-clause-stamped
check-requires-clause-stamped c κs =
    subst (λ (events : List Event). AreStamped (map entry events)) (sym c.deref.ensures.value) (recordable_stamped (map entry c.in_ok-events.events.items) c.in_ok-events.ensures.log.trace.recordable)

pub returns-in_err-events-clause-refused : goal.returns-in_err-events-clause-refused
returns-in_err-events-clause-refused c =
    let p = err_from_is_err_and c.from_residual.result c.from_residual.ensures.1 in
    rw p.1 (trace_refused (setup_of c.args.script.now) c.args.bytes.now _ _ p.2 c.in_err-events.ensures.fault)

pub returns-in_err-check-clause-refused : goal.returns-in_err-check-clause-refused
returns-in_err-check-clause-refused c =
    let read = subst (λ (events : List Event). IsRead (map entry events) c.args.bytes.now) (sym c.deref.ensures.value) c.in_ok-events.ensures.log in
    let p = err_from_is_err_and c.from_residual-in_err-check.result c.from_residual-in_err-check.ensures.1 in
    rw p.1 (check_refused (setup_of c.args.script.now) c.args.bytes.now _ _ _ _ _ p.2 read (ap start_from c.in_ok-kernel.ensures.1) c.in_err-check.ensures.stops)

pub returns-clause-log : goal.returns-clause-log
returns-clause-log c =
    let setup = setup_of c.args.script.now in
    let read = subst (λ (events : List Event). IsRead (map entry events) c.args.bytes.now) (sym c.deref.ensures.value) c.in_ok-events.ensures.log in
    trace_given setup c.args.bytes.now (map entry c.deref.result.now) c.check.new.kernel.log read
    (subst (λ (start : Start). AreSoundEvents start (map entry c.deref.result.now)) (ap start_from c.in_ok-kernel.ensures.1) c.in_ok-check.ensures.sound) c.in_ok-check.ensures.served
