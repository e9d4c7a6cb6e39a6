use Rattle.std.proofs.Common.{◌≡◌, ℕ, ◌<◌, ◌≤◌, ◌⊎◌, true, is_some}
use Rattle.nv_fs.specs.Contents.{content_byte, block_at}
use Rattle.nv_fs.proofs.holding.hold_each.Given as goal

-- the blocks up to here are held, and the others as they were
abbrev pub invariant-loop-k : goal.invariant-loop-k
invariant-loop-k l =
    ((p : ℕ) → content_byte l.blocks.items p ≡ content_byte l.initial.blocks.items p) × ((k : ℕ) → l.first ≤ k → k < l.k → is_some (block_at l.blocks.items k) ≡ true)
    × ((k : ℕ) → (k < l.first) ⊎ (l.end ≤ k) → block_at l.blocks.items k ≡ block_at l.initial.blocks.items k)
