-- The whole monitor without planned lengths, one version after another.
use Rattle.std.specs.Prelude.{ℕ, zero, suc, ◌+◌, Bool, true, false, ◌&&◌, not, List, [], ◌∷◌, length, Option, Some, None}
use Rattle.nv_calls.specs.Calls.{Entry}
use Rattle.nv_calls.specs.Logs.{Start}
use Rattle.nv_threads.specs.Behaviours.{Behaviour}
use Rattle.nv_replay.specs.declared.fate.Fate.{Fate}
use Rattle.nv_replay.specs.declared.standing.Standing.{Standing}
use Rattle.nv_replay.specs.Follow.{Follower, Judge, fresh, follow, is_exited}
use Rattle.nv_replay.specs.Lead.{Leader, lead}
use Rattle.nv_replay.specs.LettingGo.{stop_of, front, let_go}

-- the log, and what there is to tell of each version
pub record Account : Type 0 where
  pub log : List Entry
  pub lines : List Standing

-- a version that came to its fate as a follower
abbrev pub follower_line : {P : Type 0} → Follower P → Standing
follower_line f = record { fate = f.fate; seen = f.seen; led = []; rewrites = f.rewrites }

-- a version that followed this far and then led
abbrev pub leader_line : {P : Type 0} → Follower P → Leader P → Standing
leader_line f l = record { fate = l.fate; seen = length l.log; led = (f.seen, length l.log) ∷ []; rewrites = f.rewrites }

abbrev pub is_going : Option Fate → Bool
is_going None = true
is_going (Some fate) = false

-- whether a version that followed the whole log leads on
abbrev pub leads : {P : Type 0} → Bool → Follower P → Bool
leads over f = not over && is_going f.fate

-- the cuts that an account tells: which version wanted memory or was let go, and at which length of the log
abbrev pub cuts_of : List Standing → ℕ → Option ℕ
cuts_of [] i = None
cuts_of (line ∷ lines) zero = stop_of line.fate line.seen
cuts_of (line ∷ lines) (suc i) = cuts_of lines i

module _ {P : Type 0} (g : Behaviour P) (judges : ℕ → Judge) (start : Start) (most : ℕ) (cuts : ℕ → Option ℕ) where
  -- the versions after it go on from what the leader leaves
  abbrev pub before_leader : Follower P → Leader P → (List Entry → Bool → Account) → Account
  before_leader f l others = record { log = (others l.log (is_exited l.fate)).log; lines = leader_line f l ∷ (others l.log (is_exited l.fate)).lines }

  -- version i over this log, which it follows as far as its cut
  abbrev pub followed_by : List Entry → ℕ → P → Follower P
  followed_by log i p = let_go (cuts i) log (follow g (judges i) (front (cuts i) log) (fresh p))

  abbrev pub before_follower : ℕ → P → Account → Account
  before_follower i p a = record { log = a.log; lines = follower_line (followed_by a.log i p) ∷ a.lines }

  -- version i, once it has followed the log so far: it leads, or follows the whole log in the end
  abbrev pub turn : ℕ → P → (List Entry → Bool → Account) → List Entry → Bool → Follower P → Bool → Account
  turn i p others log over f true = before_leader f (lead g start most (cuts i) (record { process = f.process; log = log; fate = None })) others
  turn i p others log over f false = before_follower i p (others log over)

  -- the versions from number i on, after the log of those before; over where one of those has exited
  unfoldable pub sequence_from : List P → ℕ → List Entry → Bool → Account
  sequence_from [] i log over = record { log = log; lines = [] }
  sequence_from (p ∷ ps) i log over = turn i p (λ l o. sequence_from ps (i + 1) l o) log over (followed_by log i p) (leads over (followed_by log i p))

  abbrev pub plain_sequence : List P → Account
  plain_sequence ps = sequence_from ps 0 [] false
