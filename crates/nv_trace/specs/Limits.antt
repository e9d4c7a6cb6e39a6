-- The limits of a trace.
use Rattle.std.specs.Prelude.{ℕ}

-- entries of a log that has a trace; a live run's may be longer
abbrev pub MOST_TRACED : ℕ
MOST_TRACED = 131072
