-- A leader before and after it has served one call or ended.
use Rattle.std.specs.Prelude.{◌≡◌, ℕ, ◌+◌, ◌<◌, true, false, List, [], ◌∷◌, ◌++◌, length, Option, None}
use Rattle.nv_calls.specs.Calls.{Entry}
use Rattle.nv_calls.specs.Logs.{Start}
use Rattle.nv_threads.specs.Behaviours.{Behaviour}
use Rattle.nv_replay.specs.Follow.{IsInStep}
use Rattle.nv_replay.specs.declared.fate.Fate.{Fate}
use Rattle.nv_replay.specs.Lead.{is_cut, is_memory, cut_of, next_call}
use Rattle.nv_replay.specs.Sequence.{is_going}
use Rattle.nv_replay.specs.Version.{Running, leader_of}

-- a cut at which a leader with this end and so long a log can have come so far
pub record Suits (c : Option ℕ) (f : Option Fate) (n : ℕ) : Type 0 where
  pub below : (k : ℕ) → k < n → is_cut c k ≡ false
  pub end : is_going f ≡ false → c ≡ cut_of f n

-- what a leader keeps, and how it stands to the log
pub record LedOn {P : Type 0} (g : Behaviour P) (old new : Running P) (log new_log : List Entry) : Type 0 where
  pub index : new.index ≡ old.index
  pub rewrites : new.at.rewrites ≡ old.at.rewrites
  pub seen : new.at.seen ≡ length new_log
  pub span : (prefix : List (ℕ × ℕ)) (from : ℕ) → old.led ≡ prefix ++ (from, old.at.seen) ∷ [] → new.led ≡ prefix ++ (from, new.at.seen) ∷ []
  pub leading : new.leading ≡ old.leading
  pub in_step : IsInStep g new_log new.at
  pub asked : new.at.fate ≡ None → new.asked ≡ None

-- one step of Lead, with each cut that is here exactly where memory was refused
pub record TookTurn {P : Type 0} (g : Behaviour P) (start : Start) (most : ℕ) (old new : Running P) (log new_log : List Entry) : Type 0 where
  pub step : (c : Option ℕ) → is_cut c (length log) ≡ is_memory new.at.fate → leader_of new new_log ≡ next_call g start most c (leader_of old log)
  pub same : is_memory new.at.fate ≡ true → length new_log ≡ length log
  pub grew : new.at.fate ≡ None → length new_log ≡ length log + 1
  pub on : LedOn g old new log new_log
