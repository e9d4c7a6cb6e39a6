-- What it says of a version that it was let go, and of the others.
use Rattle.std.specs.Prelude.{◌≡◌, ◌<◌, ℕ, true, false, ◌==◌, List, [], length, Option, Some, slice_get}
use Rattle.nv_calls.specs.Logs.{Start}
use Rattle.nv_threads.specs.Behaviours.{Behaviour}
use Rattle.nv_replay.specs.declared.standing.Standing.{Standing}
use Rattle.nv_replay.specs.Follow.{Judge}
use Rattle.nv_replay.specs.LettingGo.{is_let_go}
use Rattle.nv_replay.specs.Sequence.{Account}
use Rattle.nv_replay.specs.Monitor.{sequence}

-- only one that follows is: the log has an event that it hasn't seen
abbrev pub FollowersAlone : {P : Type 0} → Behaviour P → Type 0
FollowersAlone {P} g =
    (judges : ℕ → Judge) (start : Start) (most : ℕ) (cuts : ℕ → Option ℕ) (hands : List ℕ) (ps : List P) (k : ℕ) (line : Standing)
    → slice_get (sequence g judges start most cuts hands ps).lines k ≡ Some line → is_let_go line.fate ≡ true
    → line.seen < length (sequence g judges start most cuts hands ps).log

-- version i has led no part of the log
abbrev pub NeverLed : ℕ → Account → Type 0
NeverLed i account = (line : Standing) → slice_get account.lines i ≡ Some line → line.led ≡ []

-- the log is the same, and each line but that of version i
pub record SameButFor (i : ℕ) (a b : Account) : Type 0 where
  pub log : a.log ≡ b.log
  pub lines : (k : ℕ) → (i == k) ≡ false → slice_get a.lines k ≡ slice_get b.lines k

-- Whether and where a version that never leads is let go, the others come to the same.
abbrev pub ChangesNoOther : {P : Type 0} → Behaviour P → Type 0
ChangesNoOther {P} g =
    (judges : ℕ → Judge) (start : Start) (most : ℕ) (cuts others : ℕ → Option ℕ) (hands : List ℕ) (ps : List P) (i : ℕ) → ((k : ℕ) → (i == k) ≡ false → cuts k ≡ others k)
    → NeverLed i (sequence g judges start most cuts hands ps) → NeverLed i (sequence g judges start most others hands ps)
    → SameButFor i (sequence g judges start most cuts hands ps) (sequence g judges start most others hands ps)
