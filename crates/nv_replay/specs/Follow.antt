-- A version follows a log: for each event it comes to the call of that thread, which is the event's or is judged.
use Rattle.std.specs.Prelude.{◌≡◌, ◌≢◌, ◌⊎◌, ℕ, ◌+◌, ◌≤◌, take, Bool, true, false, List, [], length, Option, Some, None, option_map, slice_get, if◌then◌else◌}
use Rattle.nv_calls.specs.Calls.{Request, Entry, is_same}
use Rattle.nv_calls.specs.Logs.{live_after}
use Rattle.nv_threads.specs.Behaviours.{Behaviour}
use Rattle.nv_threads.specs.declared.turns.Want.TheVariants.{Only}
use Rattle.nv_threads.specs.declared.turns.Came.{Came}
use Rattle.nv_threads.specs.declared.turns.Came.TheVariants.{Asked, Fault}
use Rattle.nv_replay.specs.declared.fate.Fate.{Fate}
use Rattle.nv_replay.specs.declared.fate.Fate.TheVariants.{Exited, Fault as Faulted, Refused}
use Rattle.nv_bpf.specs.declared.op.Op.{Op}
use Rattle.nv_rules.specs.declared.outcome.Verdict.{Verdict}
use Rattle.nv_rules.specs.declared.outcome.Verdict.TheVariants.{Skip, Take}
use Rattle.nv_rules.specs.Pair.{pair_words}
use Rattle.nv_rules.specs.Values.{value_of}
use Rattle.nv_rules.specs.Verdicts.{verdict_of}
use Rattle.nv_replay.specs.declared.version.Followed.{Followed}
use Rattle.nv_replay.specs.declared.version.Followed.TheVariants.{Matched, Rewrote, Skipped, Took, Dropped}
use Rattle.nv_replay.specs.Permits.{Permit, Give, Pass, Consume, No, permit}
use Rattle.nv_replay.specs.Settling.{stage}

-- the process, the events consumed, the rewrites, and the end if there is one
pub record Follower (P : Type 0) : Type 0 where
  pub process : P
  pub seen : ℕ
  pub rewrites : ℕ
  pub fate : Option Fate

abbrev pub fresh : {P : Type 0} → P → Follower P
fresh p = record { process = p; seen = 0; rewrites = 0; fate = None }

-- the value of a rule file on a call and the event that the log has in its place
abbrev pub Judge : Type 0
Judge = Request → Entry → ℕ

-- without a rule file
abbrev pub no_rules : Judge
no_rules c e = 0

-- the judge of the version with this number, where the rule file is this filter, or there is none
abbrev pub judge_of : Option (List Op) → ℕ → Judge
judge_of None i c e = 0
judge_of (Some filter) i c e = value_of filter (pair_words c e i)

-- the event's reply has answered the call
abbrev pub consumed : {P : Type 0} → Behaviour P → Follower P → P → Follower P
consumed g s p = record s { process = p; seen = s.seen + 1; fate = option_map Exited (g.ended p) }

-- the call is another than the event's; `refused` says so where no rule permits it
unfoldable pub judged : {P : Type 0} → Behaviour P → Follower P → P → ℕ → Fate → Permit → Follower P
judged g s p t refused (Give reply) = record s { process = g.given p t reply; rewrites = s.rewrites + 1 }
judged g s p t refused Pass = record s { process = p; seen = s.seen + 1; rewrites = s.rewrites + 1 }
judged g s p t refused (Consume reply) = record s { process = g.answered p t reply; seen = s.seen + 1; rewrites = s.rewrites + 1 }
judged g s p t refused No = record s { process = p; fate = Some refused }

-- the call is refused in place of the event, by this value
abbrev pub refusal_of : Request → Entry → ℕ → Fate
refusal_of c e value = Refused c.tid c.nr e.stamp value

module _ (judge : Judge) (e : Entry) (c : Request) where
  abbrev pub permit_by : Permit
  permit_by = permit c e (verdict_of (judge c e))

  abbrev pub refusal_by : Fate
  refusal_by = refusal_of c e (judge c e)

module _ {P : Type 0} (g : Behaviour P) (judge : Judge) (e : Entry) (s : Follower P) where
  -- the guest has come to this
  unfoldable pub met : P → Came → Follower P
  met p (Fault kind tid pc) = record s { process = p; fate = Some (Faulted kind tid pc) }
  met p (Asked t) =
      if is_same (g.call p t) e.call then consumed g s (g.answered p t e.reply)
      else judged g s p t (refusal_by judge e (g.call p t)) (permit_by judge e (g.call p t))

  -- one decision on an event
  unfoldable pub decided : Follower P
  decided = met (g.after s.process (Only e.call.tid)) (g.came s.process (Only e.call.tid))

-- the decision on the next event of a log; at its end, or where the version has ended, nothing
module _ {P : Type 0} (g : Behaviour P) (judge : Judge) (log : List Entry) where
  abbrev pub on_next : Follower P → Option Entry → Option Fate → Follower P
  on_next s e (Some fate) = s
  on_next s None None = s
  on_next s (Some e) None = decided g judge e s

  unfoldable pub follow_next : Follower P → Follower P
  follow_next s = on_next s (slice_get log s.seen) s.fate

  -- as many decisions as there are events and calls, and one for a fault
  unfoldable pub follow : Follower P → Follower P
  follow s = stage follow_next (length log + g.calls_left s.process + 1) s

-- the event that a follower has to decide on next
pub record IsNext {P : Type 0} (log : List Entry) (s : Follower P) (e : Entry) : Type 0 where
  pub on : s.fate ≡ None
  pub at : slice_get log s.seen ≡ Some e

-- a follower that has ended or has seen the whole log
abbrev pub HasRested : {P : Type 0} → List Entry → Follower P → Type 0
HasRested log s = (length log ≤ s.seen) ⊎ (s.fate ≢ None)

-- the verdict of the rules on the call that the event's thread comes to
abbrev pub verdict_on : {P : Type 0} → Behaviour P → Judge → Entry → Follower P → Verdict
verdict_on g judge e s = verdict_of (judge (g.call (g.after s.process (Only e.call.tid)) e.call.tid) e)

-- what is told of a decision on an event
abbrev pub IsCounted : {P : Type 0} → Verdict → Followed → Follower P → Follower P → Type 0
IsCounted v Matched old new = (new.seen ≡ old.seen + 1) × (new.rewrites ≡ old.rewrites)
IsCounted v (Rewrote verdict) old new = (new.seen ≡ old.seen) × (new.rewrites ≡ old.rewrites + 1) × (new.fate ≡ None) × (verdict ≡ v)
IsCounted v Skipped old new = (new.seen ≡ old.seen + 1) × (new.rewrites ≡ old.rewrites + 1) × (new.fate ≡ None) × (v ≡ Skip)
IsCounted v Took old new = (new.seen ≡ old.seen + 1) × (new.rewrites ≡ old.rewrites + 1) × (new.fate ≡ None) × (v ≡ Take)
IsCounted v (Dropped fate) old new = (new.seen ≡ old.seen) × (new.rewrites ≡ old.rewrites) × (new.fate ≡ Some fate)

abbrev pub is_exited : Option Fate → Bool
is_exited (Some (Exited status)) = true
is_exited fate = false

-- a follower stands where the log does: while it goes on, its live threads are those after the events seen
pub record IsInStep {P : Type 0} (g : Behaviour P) (log : List Entry) (s : Follower P) : Type 0 where
  pub within : s.seen ≤ length log
  pub live : s.fate ≡ None → g.live s.process ≡ live_after (take s.seen log)
  pub on : s.fate ≡ None → g.ended s.process ≡ None
  pub exited : is_exited s.fate ≡ true → live_after (take s.seen log) ≡ []
