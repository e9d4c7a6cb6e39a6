-- A follower that falls behind may be let go: it has followed the log as far as its cut, and follows no further.
use Rattle.std.specs.Prelude.{◌≡◌, ℕ, Bool, true, false, nat_lt, List, [], ◌∷◌, length, take, Option, Some, None}
use Rattle.nv_calls.specs.Calls.{Entry}
use Rattle.nv_replay.specs.declared.fate.Fate.{Fate}
use Rattle.nv_replay.specs.declared.fate.Fate.TheVariants.{LetGo}
use Rattle.nv_replay.specs.declared.standing.Standing.{Standing}
use Rattle.nv_replay.specs.Follow.{Follower}
use Rattle.nv_replay.specs.Lead.{cut_of}

abbrev pub is_let_go : Option Fate → Bool
is_let_go (Some LetGo) = true
is_let_go fate = false

-- no version of these lines was let go
abbrev pub NoneLetGo : List Standing → Type 0
NoneLetGo [] = Unit {0}
NoneLetGo (line ∷ lines) = (is_let_go line.fate ≡ false) × NoneLetGo lines

-- the cut that a version's end tells: it was let go at this length of the log as a follower, or wanted memory there as the leader
abbrev pub stop_of : Option Fate → ℕ → Option ℕ
stop_of (Some LetGo) n = Some n
stop_of fate n = cut_of fate n

-- the log as far as a version with this cut follows it
abbrev pub front : Option ℕ → List Entry → List Entry
front None log = log
front (Some n) log = take n log

-- where the log goes on, a follower that is still going is let go
abbrev pub left_behind : {P : Type 0} → Follower P → Bool → Option Fate → Follower P
left_behind f true None = record f { fate = Some LetGo }
left_behind f true (Some fate) = f
left_behind f false fate = f

-- A version that has come to f over that front is let go at its cut, where it still goes on and the log has an event more. So one that has seen the whole
-- log never is.
abbrev pub let_go : {P : Type 0} → Option ℕ → List Entry → Follower P → Follower P
let_go None log f = f
let_go (Some n) log f = left_behind f (nat_lt n (length log)) f.fate
