use Rattle.std.proofs.Common.{ap}
use Rattle.nv_outside.proofs.Writing.{puts-is, puts-more, puts-stopped}
use Rattle.nv_calls.specs.Calls.{entry}
use Rattle.nv_calls.specs.declared.calls.Event.{Event}
use Rattle.nv_report.specs.Events.{event_text}
use Rattle.nv_report.proofs.events.put_events.Goals as goal

pub returns-in_err-put_event : goal.returns-in_err-put_event
returns-in_err-put_event g c =
    let item = puts-is (ap (λ (event : Event). event_text (entry event)) c.event-item.is) c.in_err-put_event.ensures in
    puts-stopped (λ event. event_text (entry event)) c.args.log.now c.loop-event.event-index c.event-item.result c.loop-event-test.true c.from_residual.ensures.0
    c.loop-event.invariant item

pub loop-event-preserved : goal.loop-event-preserved
loop-event-preserved g c =
    let item = puts-is (ap (λ (event : Event). event_text (entry event)) c.event-item.is) c.in_ok-put_event.ensures in
    puts-more (λ event. event_text (entry event)) c.args.log.now c.loop-event.event-index c.event-item.result c.loop-event-test.true
    c.loop-event.invariant item
