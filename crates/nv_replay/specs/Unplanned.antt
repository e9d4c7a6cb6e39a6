-- The monitor where no length is planned.
use Rattle.std.specs.Prelude.{◌≡◌, ℕ, List, [], Option}
use Rattle.nv_calls.specs.Logs.{Start}
use Rattle.nv_threads.specs.Behaviours.{Behaviour}
use Rattle.nv_replay.specs.Follow.{Judge}
use Rattle.nv_replay.specs.Sequence.{plain_sequence}
use Rattle.nv_replay.specs.Monitor.{sequence}

-- it is the plain monitor, in which a version leads at most once
abbrev pub IsPlainUnplanned : {P : Type 0} → Behaviour P → Type 0
IsPlainUnplanned {P} g =
    (judges : ℕ → Judge) (start : Start) (most : ℕ) (cuts : ℕ → Option ℕ) (ps : List P)
    → sequence g judges start most cuts [] ps ≡ plain_sequence g judges start most cuts ps
