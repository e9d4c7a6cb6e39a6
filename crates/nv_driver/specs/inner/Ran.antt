-- What running versions and writing of it leaves.
use Rattle.std.specs.Prelude.{◌≡◌, ◌⊎◌, ℕ, Bool, false, List, Option}
use Rattle.std.specs.List.{list_any}
use Rattle.nv_bpf.specs.declared.op.Op.{Op}
use Rattle.nv_machine.specs.Guest.{Machine}
use Rattle.nv_driver.specs.Words.{Limits}
use Rattle.nv_script.specs.Scripts.{Setup}
use Rattle.nv_replay.specs.Sequence.{Account}
use Rattle.nv_replay.specs.Lead.{is_memory}
use Rattle.nv_trace.specs.Trace.{trace_of}
use Rattle.nv_driver.specs.Account.{IsRunOf, run_status}
use Rattle.nv_driver.specs.Outcome.{NoMemory, account_text, text_of}
use Rattle.nv_driver.specs.Due.{Says}

-- The versions ran and their report was written, or its JSON form; or the write failed.
pub record Ran (limits : Limits) (json : Bool) (setup : Setup) (rules : Option (List Op)) (machines : List Machine) (before : Option (List ℕ)) (faults : ℕ) (status : ℕ) (after : Option (List ℕ)) (later_faults : ℕ) : Type 0 where
  pub account : Account
  pub is_run : IsRunOf false limits setup rules machines account
  pub says : Says (account_text json setup account) (run_status account.lines) before faults status after later_faults

-- That is so, or memory was wanted for the run or for its JSON form.
abbrev pub RunSays : Limits → Bool → Setup → Option (List Op) → List Machine → Option (List ℕ) → ℕ → ℕ → Option (List ℕ) → ℕ → Type 0
RunSays limits json setup rules machines before faults status after later_faults =
    Ran limits json setup rules machines before faults status after later_faults ⊎ Says (text_of NoMemory) 3 before faults status after later_faults

-- The versions ran, none of them wanted memory, and the trace of their log was written; or the write failed.
pub record RanRecorded (limits : Limits) (setup : Setup) (rules : Option (List Op)) (machines : List Machine) (before : Option (List ℕ)) (faults : ℕ) (status : ℕ) (after : Option (List ℕ)) (later_faults : ℕ) : Type 0 where
  pub account : Account
  pub is_run : IsRunOf false limits setup rules machines account
  pub never_starved : list_any (λ line. is_memory line.fate) account.lines ≡ false
  pub says : Says (trace_of account.log) (run_status account.lines) before faults status after later_faults

-- That is so, or memory was wanted.
abbrev pub RecordSays : Limits → Setup → Option (List Op) → List Machine → Option (List ℕ) → ℕ → ℕ → Option (List ℕ) → ℕ → Type 0
RecordSays limits setup rules machines before faults status after later_faults =
    RanRecorded limits setup rules machines before faults status after later_faults ⊎ Says (text_of NoMemory) 3 before faults status after later_faults
