use Rattle.std.proofs.Common.{◌≡◌, List, [], ◌∷◌, ◌++◌, map, refl, ap}
use Rattle.std.specs.List.{flat_map}
use Rattle.nv_calls.specs.Calls.{entry}
use Rattle.nv_calls.specs.declared.calls.Event.{Event}
use Rattle.nv_report.specs.Events.{event_text}

pub flat_map-events : (events : List Event) → flat_map (λ (event : Event). event_text (entry event)) events ≡ flat_map event_text (map entry events)
flat_map-events [] = refl
flat_map-events (event ∷ events) = ap (λ t. event_text (entry event) ++ t) (flat_map-events events)
