-- How often a version's calls are rewritten.
use Rattle.std.specs.Prelude.{ℕ}

-- one for each event of the longest log, and for each call that a process can make
abbrev pub MOST_REWRITES : ℕ
MOST_REWRITES = 500000001500000008
