-- A version that exited without a rewrite, and the same version alone, with the same planned changes of the leader.
use Rattle.std.specs.Prelude.{◌≡◌, ◌≢◌, ℕ, true, List, [], ◌∷◌, Some, None, slice_get}
use Rattle.nv_calls.specs.Calls.{Entry}
use Rattle.nv_calls.specs.Logs.{Start}
use Rattle.nv_calls.specs.Numbers.{CLONE}
use Rattle.nv_threads.specs.Behaviours.{Behaviour}
use Rattle.nv_replay.specs.declared.standing.Standing.{Standing}
use Rattle.nv_replay.specs.Follow.{is_exited, no_rules}
use Rattle.nv_replay.specs.Sequence.{Account}
use Rattle.nv_replay.specs.Monitor.{sequence}

-- the monitor with this version only, where memory is never refused
abbrev pub alone : {P : Type 0} → Behaviour P → Start → ℕ → List ℕ → P → Account
alone g start most hands p = sequence g (λ i. no_rules) start most (λ i. None) hands (p ∷ [])

pub record IsSurvivor (line : Standing) : Type 0 where
  pub exited : is_exited line.fate ≡ true
  pub rewrites : line.rewrites ≡ 0

-- no event is a clone's
abbrev pub HasNoClone : List Entry → Type 0
HasNoClone log = (i : ℕ) (e : Entry) → slice_get log i ≡ Some e → e.call.nr ≢ CLONE

-- the log of each survivor alone is the log, and so is its output (output_of)
abbrev pub SurvivorsAgree : {P : Type 0} → Behaviour P → Start → ℕ → List ℕ → List P → List Standing → List Entry → Type 0
SurvivorsAgree {P} g start most hands processes lines log =
    (k : ℕ) (p : P) (line : Standing) → slice_get processes k ≡ Some p → slice_get lines k ≡ Some line → IsSurvivor line → HasNoClone log
    → (alone g start most hands p).log ≡ log
