use Rattle.std.proofs.Common.{ap, sym, subst}
use Rattle.nv_outside.proofs.Writing.{puts-is, puts-more, puts-stopped}
use Rattle.nv_calls.specs.Calls.{entry}
use Rattle.nv_calls.specs.Logs.{InRange}
use Rattle.nv_calls.specs.declared.calls.Event.{Event}
use Rattle.nv_trace.specs.Trace.{event_bytes}
use Rattle.nv_trace.proofs.Recording.{range_at}
use Rattle.nv_trace.proofs.writing.put_events.Goals as goal

pub put_event-requires : goal.put_event-requires
put_event-requires g c =
    subst (λ (e : Event). InRange (entry e)) (sym c.event-item.is)
    (range_at c.args.log.now 0 c.loop-event.event-index c.event-item.result c.requires c.loop-event-test.true)

pub returns-in_err-put_event : goal.returns-in_err-put_event
returns-in_err-put_event g c =
    let item = puts-is (ap (λ (event : Event). event_bytes (entry event)) c.event-item.is) c.in_err-put_event.ensures in
    puts-stopped (λ event. event_bytes (entry event)) c.args.log.now c.loop-event.event-index c.event-item.result c.loop-event-test.true c.from_residual.ensures.0
    c.loop-event.invariant item

pub loop-event-preserved : goal.loop-event-preserved
loop-event-preserved g c =
    let item = puts-is (ap (λ (event : Event). event_bytes (entry event)) c.event-item.is) c.in_ok-put_event.ensures in
    puts-more (λ event. event_bytes (entry event)) c.args.log.now c.loop-event.event-index c.event-item.result c.loop-event-test.true
    c.loop-event.invariant item
