-- The calls of a script.
use Rattle.std.specs.Prelude.{◌≡◌}
use Rattle.nv_calls.specs.Calls.{request}
use Rattle.nv_calls.specs.Shapes.{IsShaped}
use Rattle.nv_room_tests.specs.declared.script.Script.{Script}
use Rattle.nv_room_tests.specs.Going.{GoesOn}

-- all are shaped, the last is exit_group of thread 100, and the others end no thread
pub record AreCalls (script : Script) : Type 0 where
  pub opening : IsShaped (request script.opening) × GoesOn (request script.opening)
  pub first : IsShaped (request script.first) × GoesOn (request script.first)
  pub second : IsShaped (request script.second) × GoesOn (request script.second)
  pub last : IsShaped (request script.last) × (script.last.tid ≡ 100) × (script.last.nr ≡ 94)
