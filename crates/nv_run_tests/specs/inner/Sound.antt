-- What always holds of a learning kernel.
use Rattle.std.specs.Prelude.{◌≡◌, ℕ, Bool, true, false, List, [], ◌∷◌, Option}
use Rattle.nv_calls.specs.Calls.{Entry}
use Rattle.nv_calls.specs.Limits.{FIRST_THREAD}
use Rattle.nv_calls.specs.Logs.{IsLegal, IsLawful, calls_of, live_after, ended_after}
use Rattle.nv_run_tests.specs.Given.{inputs, from_given, IsNext}

-- the first thread lives until an exit
abbrev pub live_if : Bool → List ℕ
live_if true = []
live_if false = FIRST_THREAD ∷ []

-- of what was given, the log, what is kept, whether a thread has exited and the status
pub record IsSound (given : List (Option ℕ)) (log : List Entry) (kept : Option (Option ℕ)) (over : Bool) (end : Option ℕ) : Type 0 where
  pub next : IsNext given (inputs (calls_of log)) kept
  pub legal : IsLegal (from_given given) log
  pub lawful : IsLawful log
  pub live : live_after log ≡ live_if over
  pub end_is : end ≡ ended_after log
