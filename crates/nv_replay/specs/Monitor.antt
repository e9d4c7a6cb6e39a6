-- The whole monitor: the versions lead in order, one after another.
use Rattle.std.specs.Prelude.{ℕ, ◌+◌, Bool, true, false, List, [], ◌∷◌, ◌++◌, length, set, map, Option, Some, None, slice_get}
use Rattle.nv_calls.specs.Calls.{Entry}
use Rattle.nv_calls.specs.Logs.{Start}
use Rattle.nv_threads.specs.Behaviours.{Behaviour}
use Rattle.nv_replay.specs.declared.fate.Fate.{Fate}
use Rattle.nv_replay.specs.declared.standing.Standing.{Standing}
use Rattle.nv_replay.specs.Settling.{stage}
use Rattle.nv_replay.specs.Follow.{Follower, Judge, fresh, is_exited}
use Rattle.nv_replay.specs.Lead.{Leader}
use Rattle.nv_replay.specs.LettingGo.{front, let_go}
use Rattle.nv_replay.specs.Sequence.{Account}
use Rattle.nv_replay.specs.Tracks.{track}
use Rattle.nv_replay.specs.Hands.{is_handed, lead_to_hand}

-- a version's part in a run
pub record Part (P : Type 0) : Type 0 where
  -- as it was made
  pub process : P
  -- the parts of the log that it led
  pub led : List (ℕ × ℕ)
  -- what there is to tell of it, once it has ended as the leader
  pub told : Option Standing

-- a run between two leaders
pub record Run (P : Type 0) : Type 0 where
  pub log : List Entry
  -- the process has ended
  pub over : Bool
  -- the versions that may lead, by number
  pub order : List ℕ
  -- of each version, by number
  pub parts : List (Part P)

abbrev pub numbers : {P : Type 0} → ℕ → List P → List ℕ
numbers i [] = []
numbers i (p ∷ ps) = i ∷ numbers (i + 1) ps

abbrev pub part : {P : Type 0} → P → Part P
part p = record { process = p; led = []; told = None }

-- the order begins as all versions; the log is empty, and no version has led
abbrev pub begun : {P : Type 0} → List P → Run P
begun ps = record { log = []; over = false; order = numbers 0 ps; parts = map part ps }

-- it has led the log from this length on
abbrev pub with_span : {P : Type 0} → Part P → ℕ → ℕ → Part P
with_span v from to = record v { led = v.led ++ (from, to) ∷ [] }

abbrev pub led_line : {P : Type 0} → Part P → Follower P → ℕ → Leader P → Standing
led_line v f from l = record { fate = l.fate; seen = length l.log; led = v.led ++ (from, length l.log) ∷ []; rewrites = f.rewrites }

-- the first of the order has led: it goes to the order's end where it gave up the lead, and else it leaves the order
abbrev pub after_lead : {P : Type 0} → Run P → ℕ → List ℕ → Part P → Follower P → Leader P → Bool → Run P
after_lead m i order v f l true = record {
  log = l.log;
  over = false;
  order = order ++ i ∷ [];
  parts = set m.parts i (record (with_span v (length m.log) (length l.log)) { told = None });
}
after_lead m i order v f l false = record {
  log = l.log;
  over = is_exited l.fate;
  order = order;
  parts = set m.parts i (record (with_span v (length m.log) (length l.log)) { told = Some (led_line v f (length m.log) l) });
}

module _ {P : Type 0} (g : Behaviour P) (judges : ℕ → Judge) (start : Start) (most : ℕ) (cuts : ℕ → Option ℕ) (hands : List ℕ) where
  -- version i over this log, which it follows as far as its cut
  abbrev pub tracked_by : List Entry → ℕ → Part P → Follower P
  tracked_by log i v = let_go (cuts i) log (track g (judges i) v.led (front (cuts i) log) (fresh v.process))

  -- version i leads from where it stands
  abbrev pub leads_on : List Entry → ℕ → Follower P → Leader P
  leads_on log i f = lead_to_hand g start most (cuts i) hands (length log) (record { process = f.process; log = log; fate = None })

  -- the first of the order, which comes to f over the log: it leaves the order, or leads
  abbrev pub turn_by : Run P → ℕ → List ℕ → Part P → Follower P → Option Fate → Run P
  turn_by m i order v f (Some fate) = record m { order = order }
  turn_by m i order v f None = after_lead m i order v f (leads_on m.log i f) (is_handed hands (length m.log) (leads_on m.log i f))

  abbrev pub turn_of : Run P → ℕ → List ℕ → Option (Part P) → Run P
  turn_of m i order None = record m { order = order }
  turn_of m i order (Some v) = turn_by m i order v (tracked_by m.log i v) (tracked_by m.log i v).fate

  abbrev pub turn_in : Run P → Bool → List ℕ → Run P
  turn_in m true order = m
  turn_in m false [] = m
  turn_in m false (i ∷ order) = turn_of m i order (slice_get m.parts i)

  -- one turn; once the process has ended, or the order is empty, nothing
  unfoldable pub turn : Run P → Run P
  turn m = turn_in m m.over m.order

  -- what there is to tell of version i: where it didn't end as the leader, what it comes to over the whole log
  abbrev pub told_standing : List Entry → ℕ → Part P → Option Standing → Standing
  told_standing log i v (Some line) = line
  told_standing log i v None = record { fate = (tracked_by log i v).fate; seen = (tracked_by log i v).seen; led = v.led; rewrites = (tracked_by log i v).rewrites }

  abbrev pub lines_of : List Entry → ℕ → List (Part P) → List Standing
  lines_of log i [] = []
  lines_of log i (v ∷ vs) = told_standing log i v v.told ∷ lines_of log (i + 1) vs

  abbrev pub account_of : Run P → Account
  account_of m = record { log = m.log; lines = lines_of m.log 0 m.parts }

  -- one turn a version, and one more for each number of `hands`
  unfoldable pub sequence : List P → Account
  sequence ps = account_of (stage turn (length ps + length hands) (begun ps))
