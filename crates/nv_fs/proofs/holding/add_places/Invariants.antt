use Rattle.std.proofs.Common.{◌≡◌, ℕ, ◌-◌, vec_len}
use Rattle.nv_fs.specs.Contents.{block_at}
use Rattle.nv_fs.proofs.holding.add_places.Given as goal

-- each block is as it was
abbrev pub invariant-loop-blocks : goal.invariant-loop-blocks
invariant-loop-blocks l = (k : ℕ) → block_at l.blocks.items k ≡ block_at l.initial.blocks.items k

abbrev pub decreases-loop-blocks : goal.decreases-loop-blocks
decreases-loop-blocks l = l.wanted - vec_len l.blocks
