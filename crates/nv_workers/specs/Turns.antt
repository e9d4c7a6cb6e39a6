-- What a worker keeps from turn to turn, of a version that was fresh with the process p and of its seat's seen list.
use Rattle.std.specs.Prelude.{◌≡◌, ◌≤◌, ◌<◌, ◌+◌, ℕ, Bool, true, false, List, [], ◌∷◌, ◌++◌, length, Option, Some, None}
use Rattle.nv_calls.specs.Calls.{Entry}
use Rattle.nv_calls.specs.Logs.{Start}
use Rattle.nv_threads.specs.Behaviours.{Behaviour}
use Rattle.nv_replay.specs.Spans.{EndBy}
use Rattle.nv_replay.specs.Follow.{Judge, fresh, IsInStep}
use Rattle.nv_replay.specs.Tracks.{track_next}
use Rattle.nv_replay.specs.Hands.{count_above, is_handed}
use Rattle.nv_replay.specs.Version.{Running, asking_next, leader_of}
use Rattle.nv_workers.specs.Ends.{IsStage, AreHandedBy, HasLedFrom}

abbrev pub held_list : Option Entry → List Entry
held_list None = []
held_list (Some e) = e ∷ []

module _ {P : Type 0} (g : Behaviour P) (judges : ℕ → Judge) (replies : Start) (most : ℕ) (planned : List ℕ) where
  -- a reader's version; `held` is the log's next event where it is read and not yet consumed
  pub record IsReaders (i : ℕ) (p : P) (v : Running P) (log : List Entry) (held : Option Entry) : Type 0 where
    pub index : v.index ≡ i
    pub on : v.at.fate ≡ None
    pub idle : v.leading ≡ false
    pub none_asked : v.asked ≡ None
    pub seen : v.at.seen ≡ length log
    pub in_step : IsInStep g log v.at
    pub handed : AreHandedBy g judges replies most planned i p v.led log
    pub past : EndBy v.at.seen v.led
    pub few : length v.led + count_above planned v.at.seen ≤ 8
    pub stage : IsStage (track_next g (judges i) v.led (log ++ held_list held)) (fresh p) v.at

  -- a leader that gives up the lead has led an event, and may have one part more; one that goes on comes to no planned length
  abbrev pub Goes : Bool → Running P → List (ℕ × ℕ) → ℕ → List Entry → Type 0
  Goes true v led from log = (from < length log) × (length led + 1 + count_above planned (length log) ≤ 8)
  Goes false v led from log = is_handed planned from (leader_of v log) ≡ false

  -- a leader's version between two calls; `over` says that it gives up the lead here
  pub record IsServing (over : Bool) (i : ℕ) (p : P) (v : Running P) (led : List (ℕ × ℕ)) (from : ℕ) (log : List Entry) : Type 0 where
    pub on : v.at.fate ≡ None
    pub none_asked : v.asked ≡ None
    pub goes : Goes over v led from log
    pub led_from : HasLedFrom g judges replies most planned i p v led from log

  -- a leader's version with a call that is asked and not yet served
  pub record IsAsking (i : ℕ) (p : P) (v : Running P) (led : List (ℕ × ℕ)) (from : ℕ) (log : List Entry) : Type 0 where
    pub before : Running P
    pub serving : IsServing false i p before led from log
    pub asking : v ≡ asking_next g most before
