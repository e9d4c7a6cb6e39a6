use Rattle.std.proofs.Common.{◌≡◌, ℕ, ◌+◌, ◌-◌, ◌<◌, ◌≤◌, length, get_or}
use Rattle.nv_fs.specs.Contents.{content_byte}
use Rattle.nv_fs.proofs.copying.read.Given as goal

-- the bytes up to here are copied
abbrev pub invariant-loop-done : goal.invariant-loop-done
invariant-loop-done l = (l.done ≤ length l.into) × ((k : ℕ) → k < l.done → get_or l.into k 0 ≡ content_byte l.blocks (l.from + k))

abbrev pub decreases-loop-done : goal.decreases-loop-done
decreases-loop-done l = length l.into - l.done
