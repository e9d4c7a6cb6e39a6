-- What holds of the lines of a run: each version has a fate, and the parts that they led cover the log.
use Rattle.std.specs.Prelude.{◌≡◌, ℕ, ◌+◌, false, nat_le, List, [], ◌∷◌, length, if◌then◌else◌}
use Rattle.nv_calls.specs.Calls.{Entry}
use Rattle.nv_replay.specs.declared.standing.Standing.{Standing}
use Rattle.nv_replay.specs.Sequence.{is_going}
use Rattle.nv_replay.specs.Tracks.{is_in}

abbrev pub AreEnded : List Standing → Type 0
AreEnded [] = Unit {0}
AreEnded (line ∷ lines) = (is_going line.fate ≡ false) × AreEnded lines

-- how many of these parts of a log have event n
abbrev pub times : List (ℕ × ℕ) → ℕ → ℕ
times [] n = 0
times (span ∷ spans) n = (if is_in span n then 1 else 0) + times spans n

abbrev pub led_times : List Standing → ℕ → ℕ
led_times [] n = 0
led_times (line ∷ lines) n = times line.led n + led_times lines n

-- the parts that the versions led are disjoint and cover the log: each event lies in exactly one of them, and nothing else does
abbrev pub Covers : List Standing → List Entry → Type 0
Covers lines log = (n : ℕ) → led_times lines n ≡ (if nat_le (length log) n then 0 else 1)
