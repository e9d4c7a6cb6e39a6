-- A version as callers see it.
use Rattle.std.specs.Prelude.{◌≡◌, ℕ, ◌+◌, Bool, true, false, nat_le, List, [], Option, Some, None, option_map, if◌then◌else◌}
use Rattle.nv_calls.specs.Calls.{Entry}
use Rattle.nv_threads.specs.Ahead.{Known}
use Rattle.nv_threads.specs.Behaviours.{Behaviour, IsStarted}
use Rattle.nv_threads.specs.Threads.{Proc}
use Rattle.nv_machine.specs.declared.outcome.FaultKind.TheVariants.{Calls}
use Rattle.nv_threads.specs.declared.turns.Want.TheVariants.{Any}
use Rattle.nv_threads.specs.declared.turns.Came.{Came}
use Rattle.nv_threads.specs.declared.turns.Came.TheVariants.{Asked, Fault}
use Rattle.nv_replay.specs.declared.version.Led.{Led}
use Rattle.nv_replay.specs.declared.version.Led.TheVariants.{Asked as Asks, Dropped}
use Rattle.nv_replay.specs.declared.fate.Fate.TheVariants.{Exited, Fault as Faulted}
use Rattle.nv_replay.specs.declared.standing.Standing.{Standing}
use Rattle.nv_replay.specs.Spans.{grown}
use Rattle.nv_replay.specs.Follow.{Follower, fresh}
use Rattle.nv_replay.specs.Lead.{Leader}

pub record Running (P : Type 0) : Type 0 where
  pub index : ℕ
  pub at : Follower P
  -- the parts of the log that it led
  pub led : List (ℕ × ℕ)
  -- the last of them may still grow
  pub leading : Bool
  -- the thread whose call it has told and that waits for its answer
  pub asked : Option ℕ
  -- it may go on ahead of the log; this never changes
  pub eager : Bool

abbrev pub standing_of : {P : Type 0} → Running P → Standing
standing_of r = record { fate = r.at.fate; seen = r.at.seen; led = r.led; rewrites = r.at.rewrites }

-- its process as its callers know it
abbrev pub known_of : Running Proc → Known
known_of r = record { process = r.at.process; eager = r.eager }

abbrev pub process_of : {P : Type 0} → Running P → P
process_of r = r.at.process

-- a version as it was made, with this number
pub record IsFresh {P : Type 0} (g : Behaviour P) (i : ℕ) (r : Running P) : Type 0 where
  pub index : r.index ≡ i
  pub at : r.at ≡ fresh r.at.process
  pub not_led : r.led ≡ []
  pub idle : r.leading ≡ false
  pub none_asked : r.asked ≡ None
  pub started : IsStarted g r.at.process

pub record IsFollowing {P : Type 0} (r : Running P) : Type 0 where
  pub on : r.at.fate ≡ None
  pub idle : r.leading ≡ false

pub record IsLiveLeader {P : Type 0} (r : Running P) : Type 0 where
  pub on : r.at.fate ≡ None
  pub leading : r.leading ≡ true
  pub none_asked : r.asked ≡ None

module _ {P : Type 0} (g : Behaviour P) (most : ℕ) (r : Running P) where
  unfoldable pub asking_by : P → Came → Running P
  asking_by p (Fault kind tid pc) = record r { at = record r.at { process = p; fate = Some (Faulted kind tid pc) } }
  asking_by p (Asked t) =
      if nat_le most r.at.seen then record r { at = record r.at { process = p; fate = Some (Faulted Calls t (g.pc p t)) } }
      else record r { at = record r.at { process = p }; asked = Some t }

  -- a leader comes to its next call, or ends
  unfoldable pub asking_next : Running P
  asking_next = asking_by (g.after r.at.process Any) (g.came r.at.process Any)

-- its call has become this event
abbrev pub became_event : {P : Type 0} → Behaviour P → Entry → Running P → Running P
became_event g e r =
    record r {
      at = record r.at {
        process = g.answered r.at.process e.call.tid e.reply;
        seen = r.at.seen + 1;
        fate = option_map Exited
            (g.ended (g.answered r.at.process e.call.tid e.reply));
      };
      led = grown r.led;
      asked = None;
    }

-- what is told of a leader
abbrev pub LedTo : {P : Type 0} → Led → Running P → Type 0
LedTo (Asks t) new = (new.asked ≡ Some t) × (new.at.fate ≡ None)
LedTo (Dropped fate) new = (new.asked ≡ None) × (new.at.fate ≡ Some fate)

-- a leader with the log that it leads
abbrev pub leader_of : {P : Type 0} → Running P → List Entry → Leader P
leader_of r log = record { process = r.at.process; log = log; fate = r.at.fate }
