-- The code's values as the definitions see them.
use Rattle.std.specs.Prelude.{map}
use Rattle.nv_script.specs.declared.script.Script.{Script}
use Rattle.nv_script.specs.ArrivalViews.{view}
use Rattle.nv_script.specs.Scripts.{Setup}

-- what a script says, as lists
abbrev pub setup_of : Script → Setup
setup_of script = record {
  arguments = map (λ argument. argument.items) script.arguments.items;
  input = script.input.items;
  files = map (λ file. (file.0.items, file.1.items)) script.files.items;
  seconds = script.seconds;
  nanos = script.nanos;
  step = script.step;
  seed = script.seed;
  hands = script.hands.items;
  connections = map (λ connection. (connection.0, connection.1.items)) script.connections.items;
  arrivals = map view script.arrivals.items;
  polls = script.polls;
}
