use Rattle.std.proofs.Common.{take, Ok}
use Rattle.std.specs.List.{flat_map}
use Rattle.nv_outside.specs.Sink.{Puts}
use Rattle.nv_calls.specs.Calls.{entry}
use Rattle.nv_report.specs.Events.{event_text}
use Rattle.nv_report.proofs.events.put_events.Given as goal

abbrev pub invariant-loop-event : goal.invariant-loop-event
invariant-loop-event g l =
    Puts (g.S.Sink.told l.fn.sink) (g.S.Sink.faults l.fn.sink) (flat_map (λ event. event_text (entry event)) (take l.event-index l.log))
    (Ok tt) (g.S.Sink.told l.sink) (g.S.Sink.faults l.sink)
