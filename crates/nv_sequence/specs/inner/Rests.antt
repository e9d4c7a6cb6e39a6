-- Versions between two turns, and at a run's end.
use Rattle.std.specs.Prelude.{◌≡◌, false, List, [], ◌∷◌, None}
use Rattle.nv_calls.specs.Calls.{Entry}
use Rattle.nv_threads.specs.Behaviours.{Behaviour}
use Rattle.nv_replay.specs.Follow.{IsInStep}
use Rattle.nv_replay.specs.Version.{Running}

-- versions none of which leads on
pub record IsRested {P : Type 0} (g : Behaviour P) (log : List Entry) (r : Running P) : Type 0 where
  pub idle : r.at.fate ≡ None → r.leading ≡ false
  pub in_step : IsInStep g log r.at

abbrev pub AreRested : {P : Type 0} → Behaviour P → List Entry → List (Running P) → Type 0
AreRested g log [] = Unit {0}
AreRested g log (r ∷ rs) = IsRested g log r × AreRested g log rs

abbrev pub AreInStep : {P : Type 0} → Behaviour P → List Entry → List (Running P) → Type 0
AreInStep g log [] = Unit {0}
AreInStep g log (r ∷ rs) = IsInStep g log r.at × AreInStep g log rs
