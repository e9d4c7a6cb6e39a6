-- What a run begins with and what its account is.
use Rattle.std.specs.Prelude.{◌≡◌, ℕ, ◌+◌, ◌≤◌, true, false, List, [], ◌∷◌, ◌++◌, length}
use Rattle.nv_threads.specs.Behaviours.{Behaviour}
use Rattle.nv_replay.specs.declared.standing.Standing.{Standing}
use Rattle.nv_replay.specs.Sequence.{is_going}
use Rattle.nv_replay.specs.Version.{Running, IsFresh}

-- versions as they were made, with the numbers from this one on
abbrev pub AreFresh : {P : Type 0} → Behaviour P → ℕ → List (Running P) → Type 0
AreFresh g i [] = Unit {0}
AreFresh g i (r ∷ rs) = IsFresh g i r × AreFresh g (i + 1) rs

-- it leads from here on
abbrev pub with_span : {P : Type 0} → Running P → ℕ → Running P
with_span r n = record r { led = r.led ++ (n, n) ∷ []; leading = true }

-- a version has a fate, and has led at most one part of the log
pub record IsSettled (line : Standing) : Type 0 where
  pub fated : is_going line.fate ≡ false
  pub span : length line.led ≤ 1

abbrev pub AreSettled : List Standing → Type 0
AreSettled [] = Unit {0}
AreSettled (line ∷ lines) = IsSettled line × AreSettled lines
