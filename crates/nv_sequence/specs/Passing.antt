-- A version's turn: it follows the log so far, and leads from there.
use Rattle.std.specs.Prelude.{◌≡◌, ℕ, ◌<◌, false, not, List, ◌++◌, length, Option, Some, None}
use Rattle.nv_calls.specs.Calls.{Entry}
use Rattle.nv_calls.specs.Logs.{Start}
use Rattle.nv_threads.specs.Behaviours.{Behaviour}
use Rattle.nv_replay.specs.declared.fate.Fate.{Fate}
use Rattle.nv_replay.specs.declared.fate.Fate.TheVariants.{Exited as Exits}
use Rattle.nv_replay.specs.Follow.{Judge, follow, IsInStep}
use Rattle.nv_replay.specs.Hands.{is_handed, lead_to_hand}
use Rattle.nv_replay.specs.Sequence.{is_going}
use Rattle.nv_replay.specs.Spans.{MOST_SPANS}
use Rattle.nv_replay.specs.Version.{Running, leader_of}
use Rattle.nv_replay.specs.Account.{with_span}
use Rattle.nv_replay.specs.Turns.{Suits, LedOn}
use Rattle.nv_sequence.specs.declared.leading.Turned.{Turned}
use Rattle.nv_sequence.specs.declared.leading.Turned.TheVariants.{Left, GaveUp, Exited}

-- a log and what it has become
abbrev pub Grows : List Entry → List Entry → Type 0
Grows old new = (more : List Entry) × (new ≡ old ++ more)

-- all of Lead, to its end or to a planned length, with each cut that suits where it has come to
pub record HasLed {P : Type 0} (g : Behaviour P) (start : Start) (most : ℕ) (hands : List ℕ) (old new : Running P) (log new_log : List Entry) : Type 0 where
  pub whole : (c : Option ℕ) → Suits c new.at.fate (length new_log)
      → leader_of new new_log ≡ lead_to_hand g start most c hands (length log) (leader_of old log)
  pub on : LedOn g old new log new_log
  -- it goes on exactly where it gives up the lead
  pub handed : is_handed hands (length log) (leader_of new new_log) ≡ is_going new.at.fate

abbrev pub followed : {P : Type 0} → Behaviour P → (ℕ → Judge) → List Entry → Running P → Running P
followed g judges log r = record r { at = follow g (judges r.index) log r.at }

-- a leader that goes on gives up the lead
abbrev pub given_up : {P : Type 0} → Running P → Running P
given_up r = record r { leading = not (is_going r.at.fate) }

-- what has become of a leader
abbrev pub turned_of : Option Fate → Turned
turned_of None = GaveUp
turned_of (Some (Exits status)) = Exited
turned_of (Some fate) = Left

pub record HadLead {P : Type 0} (g : Behaviour P) (start : Start) (most : ℕ) (hands : List ℕ) (old new : Running P) (log new_log : List Entry) (result : Turned) : Type 0 where
  pub end : Running P
  pub led : HasLed g start most hands (with_span old (length log)) end log new_log
  pub then : new ≡ given_up end
  pub turned : result ≡ turned_of end.at.fate

-- a version that has followed the log so far to `old`, and with this fate: it has led from there, or ended
abbrev pub TurnDone : {P : Type 0} → Behaviour P → Start → ℕ → List ℕ → Running P → Running P → List Entry → List Entry → Turned → Option Fate → Type 0
TurnDone g start most hands old new log new_log result (Some fate) = (new ≡ old) × (new_log ≡ log) × (result ≡ Left) × IsInStep g log new.at
TurnDone g start most hands old new log new_log result None = HadLead g start most hands old new log new_log result

-- a version whose turn it may be
pub record MayHaveTurn {P : Type 0} (g : Behaviour P) (log : List Entry) (r : Running P) : Type 0 where
  pub idle : r.leading ≡ false
  pub asked : r.asked ≡ None
  pub in_step : IsInStep g log r.at
  pub few : length r.led < MOST_SPANS
