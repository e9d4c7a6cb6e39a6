use Rattle.std.proofs.Common.{◌≡◌, map, take}
use Rattle.serde_json.specs.View.{view}
use Rattle.nv_calls.specs.Calls.{entry}
use Rattle.nv_report.specs.Json.{event_value}
use Rattle.nv_report.proofs.items.events.Given as goal

abbrev pub invariant-loop-event : goal.invariant-loop-event
invariant-loop-event l = map view l.items.items ≡ map (λ event. event_value (entry event)) (take l.event-index l.log)
