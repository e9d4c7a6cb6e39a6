-- What the run of a number begins with.
use Rattle.std.specs.Prelude.{◌≡◌, ℕ, List, [], ◌∷◌}
use Rattle.std.proofs.Common.{Vec, Global}
use Rattle.nv_machine.specs.Guest.{Machine}
use Rattle.nv_driver.specs.Words.{usual}
use Rattle.nv_script.specs.Scripts.{Setup}
use Rattle.nv_threads.specs.Threads.{Proc}
use Rattle.nv_replay.specs.Version.{Running}
use Rattle.nv_driver.specs.Account.{process_begun}
use Rattle.nv_driver.specs.Prepared.{Loads, version_from}

-- the file loads this machine in a run that says nothing
pub record Runs (setup : Setup) (file : List ℕ) : Type 0 where
  pub machine : Machine
  pub loads : version_from usual setup file ≡ Loads machine

-- the version is that of the file
pub record IsFrom (setup : Setup) (file : List ℕ) (version : Running Proc) : Type 0 where
  pub runs : Runs setup file
  pub begins : version.at.process ≡ process_begun usual setup runs.machine

abbrev pub AreFrom : Setup → List (Vec ℕ Global) → List (Running Proc) → Type 0
AreFrom setup [] [] = Unit {0}
AreFrom setup [] (version ∷ versions) = ⊥
AreFrom setup (file ∷ files) [] = ⊥
AreFrom setup (file ∷ files) (version ∷ versions) = IsFrom setup file.items version × AreFrom setup files versions
