-- Workers in stretches.
use Rattle.std.specs.Prelude.{◌≡◌, ◌<◌, ◌≤◌, ◌+◌, ◌*◌, ℕ}
use Rattle.nv_workers.specs.declared.dealing.Stretches.{Stretches}

-- so many workers in so many stretches, sizes at most one apart. Those of one size stand first, and have no fewer workers together than the others
pub record AreEven (workers stretches : ℕ) (s : Stretches) : Type 0 where
  pub first : ℕ
  pub others : ℕ
  pub all : first + others ≡ stretches
  pub together : s.first ≡ first * s.size
  pub whole : s.first + others * s.other ≡ workers
  pub most : others * s.other ≤ s.first
  pub apart : (s.size ≤ s.other + 1) × (s.other ≤ s.size + 1)
  pub some : (0 < s.first) × (0 < s.size) × (0 < s.other)
