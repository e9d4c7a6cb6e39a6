-- What a turn uses up.
use Rattle.std.specs.Prelude.{◌≡◌, ◌<◌, ◌≤◌, ◌+◌, ℕ}
use Rattle.nv_threads.specs.Ahead.{MayGoAhead}
use Rattle.nv_threads.specs.Threads.{Proc}
use Rattle.nv_replay.specs.Version.{Running, known_of}
use Rattle.nv_workers.specs.declared.worker.Turn.{Turn}
use Rattle.nv_workers.specs.declared.worker.Turn.TheVariants.{Moved, Ahead, Waiting, Done}

-- so many events were seen before and so many after: the same, or one more
abbrev pub OneMoreAtMost : ℕ → ℕ → Type 0
OneMoreAtMost old new = (old ≤ new) × (new ≤ old + 1)

-- the turns in which a version may still go on while it waits, before such a turn and after
abbrev pub SparesOn : Turn → ℕ → ℕ → Type 0
SparesOn Moved old new = new ≡ old
SparesOn Ahead old new = new < old
SparesOn Waiting old new = new ≡ old
SparesOn Done old new = new ≡ old

-- only a version that may go on while it waits does so
abbrev pub GoesOnly : Turn → Running Proc → Type 0
GoesOnly Moved v = Unit {0}
GoesOnly Ahead v = MayGoAhead (known_of v)
GoesOnly Waiting v = Unit {0}
GoesOnly Done v = Unit {0}
