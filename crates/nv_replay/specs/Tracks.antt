-- A version that has led parts of a log follows the rest: in those parts it comes to its own calls again, with the answers
-- that they had.
use Rattle.std.specs.Prelude.{ℕ, ◌+◌, Bool, true, false, ◌||◌, ◌&&◌, not, nat_le, List, [], ◌∷◌, length, Option, Some, None, slice_get}
use Rattle.nv_calls.specs.Calls.{Entry}
use Rattle.nv_threads.specs.Behaviours.{Behaviour}
use Rattle.nv_threads.specs.declared.turns.Want.TheVariants.{Any}
use Rattle.nv_threads.specs.declared.turns.Came.{Came}
use Rattle.nv_threads.specs.declared.turns.Came.TheVariants.{Asked, Fault}
use Rattle.nv_replay.specs.declared.fate.Fate.{Fate}
use Rattle.nv_replay.specs.declared.fate.Fate.TheVariants.{Fault as Faulted}
use Rattle.nv_replay.specs.Settling.{stage}
use Rattle.nv_replay.specs.Follow.{Follower, Judge, decided, consumed}

abbrev pub is_in : ℕ × ℕ → ℕ → Bool
is_in span n = nat_le span.0 n && not (nat_le span.1 n)

-- whether event n lies in one of these parts
abbrev pub is_led : List (ℕ × ℕ) → ℕ → Bool
is_led [] n = false
is_led (span ∷ spans) n = is_in span n || is_led spans n

module _ {P : Type 0} (g : Behaviour P) (judge : Judge) (spans : List (ℕ × ℕ)) where
  -- its own call again, with the answer that it had
  unfoldable pub retraced_by : Entry → Follower P → P → Came → Follower P
  retraced_by e s p (Fault kind tid pc) = record s { process = p; fate = Some (Faulted kind tid pc) }
  retraced_by e s p (Asked t) = consumed g s (g.answered p t e.reply)

  abbrev pub tracked : Entry → Follower P → Bool → Follower P
  tracked e s true = retraced_by e s (g.after s.process Any) (g.came s.process Any)
  tracked e s false = decided g judge e s

  abbrev pub track_on : Follower P → Option Entry → Option Fate → Follower P
  track_on s e (Some fate) = s
  track_on s None None = s
  track_on s (Some e) None = tracked e s (is_led spans s.seen)

  -- the decision on the next event of a log; at its end, or where the version has ended, nothing
  unfoldable pub track_next : List Entry → Follower P → Follower P
  track_next log s = track_on s (slice_get log s.seen) s.fate

  -- as many decisions as there are events and calls, and one for a fault
  unfoldable pub track : List Entry → Follower P → Follower P
  track log s = stage (track_next log) (length log + g.calls_left s.process + 1) s
