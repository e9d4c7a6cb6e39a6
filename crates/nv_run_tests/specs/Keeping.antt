-- Where what answers a live run's calls stands that lets nothing go.
use Rattle.std.specs.Prelude.{◌≡◌, true, List}
use Rattle.nv_calls.specs.Calls.{Entry}
use Rattle.nv_script.specs.Scripts.{Setup}
use Rattle.nv_script.specs.Doings.{Doing}
use Rattle.nv_arriving.specs.Kernel.{Coming}
use Rattle.nv_arriving.specs.Reserved.{IsKept}
use Rattle.nv_arriving.specs.Standing.{StandsAt}

-- it stands there, and all that was said is kept
pub record StandsKept {O : Type 0} (did : O → O → List Doing → Type 0) (is_over : O → Type 0) (g : Coming O) (setup : Setup) (log : List Entry) : Type 0 where
  pub here : StandsAt did is_over g setup log
  pub keeps : g.keeps ≡ true
  pub kept : IsKept g.room
