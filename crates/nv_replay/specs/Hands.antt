-- A version leads until it ends, or until it has made the log as long as one of these numbers: then it gives up the lead.
use Rattle.std.specs.Prelude.{ℕ, ◌+◌, Bool, true, false, ◌&&◌, not, nat_le, List, [], ◌∷◌, length, Option, if◌then◌else◌}
use Rattle.nv_calls.specs.Hands.{has}
use Rattle.nv_calls.specs.Logs.{Start}
use Rattle.nv_threads.specs.Behaviours.{Behaviour}
use Rattle.nv_replay.specs.Settling.{stage}
use Rattle.nv_replay.specs.Lead.{Leader, next_call}
use Rattle.nv_replay.specs.Sequence.{is_going}

-- whether a leader goes on at this length of the log
abbrev pub stays : Bool → List ℕ → ℕ → Bool
stays on hands n = on && not (has hands n)

-- how many of these numbers are above n
abbrev pub count_above : List ℕ → ℕ → ℕ
count_above [] n = 0
count_above (k ∷ ks) n = (if nat_le k n then 0 else 1) + count_above ks n

-- a leader that goes on and has just made the log, which was so long when it began, as long as one of these numbers
abbrev pub is_handed : {P : Type 0} → List ℕ → ℕ → Leader P → Bool
is_handed hands from l = is_going l.fate && (not (nat_le (length l.log) from) && has hands (length l.log))

module _ {P : Type 0} (g : Behaviour P) (start : Start) (most : ℕ) (cut : Option ℕ) (hands : List ℕ) (from : ℕ) where
  abbrev pub unless_handed : Leader P → Bool → Leader P
  unless_handed l true = l
  unless_handed l false = next_call g start most cut l

  unfoldable pub next_or_hand : Leader P → Leader P
  next_or_hand l = unless_handed l (is_handed hands from l)

  -- as many calls as the guest can make, and one for a fault
  unfoldable pub lead_to_hand : Leader P → Leader P
  lead_to_hand l = stage next_or_hand (g.calls_left l.process + 1) l
