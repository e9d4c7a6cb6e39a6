-- What running versions and writing of it leaves.
use Rattle.std.specs.Prelude.{◌⊎◌, ℕ, List, Option}
use Rattle.nv_driver.specs.Outcome.{Outcome, NoMemory, NotAccepted, text_of, outcome_status}
use Rattle.nv_driver.specs.Due.{Says}

-- a text was written with its status, or memory was wanted and the line of that was written
abbrev pub Wrote : List ℕ → ℕ → Option (List ℕ) → ℕ → ℕ → Option (List ℕ) → ℕ → Type 0
Wrote text text_status before faults status after later_faults =
    Says text text_status before faults status after later_faults ⊎ Says (text_of NoMemory) 3 before faults status after later_faults

-- an outcome is told by its text with its status; memory may be wanted for the text of a refusal
abbrev pub Tells : Outcome → Option (List ℕ) → ℕ → ℕ → Option (List ℕ) → ℕ → Type 0
Tells (NotAccepted limit name cause) before faults status after later_faults = Wrote (text_of (NotAccepted limit name cause)) 4 before faults status after later_faults
Tells outcome before faults status after later_faults = Says (text_of outcome) (outcome_status outcome) before faults status after later_faults
