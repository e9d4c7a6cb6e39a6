-- What a made run comes to and what is written of it.
use Rattle.std.specs.Prelude.{◌≡◌, ◌⊎◌, ℕ, List, Option}
use Rattle.nv_driver.specs.Outcome.{Outcome, NoMemory, text_of, outcome_status}
use Rattle.nv_driver.specs.Due.{GenOwes, Says}

-- The line of what the number's run owes was written, or that memory was wanted; or a write failed.
pub record SumsUp (n : ℕ) (before : Option (List ℕ)) (faults : ℕ) (status : ℕ) (after : Option (List ℕ)) (later_faults : ℕ) : Type 0 where
  pub outcome : Outcome
  pub owed : GenOwes n outcome ⊎ (outcome ≡ NoMemory)
  pub says : Says (text_of outcome) (outcome_status outcome) before faults status after later_faults
