use Rattle.std.proofs.Common.{◌≡◌, ℕ, ◌-◌, ◌≤◌, length, take, map, is_some}
use Rattle.nv_fs.specs.Contents.{content_byte, overwritten}
use Rattle.nv_fs.proofs.copying.write.Given as goal

-- the bytes up to here are written, and each block is there or not as before
abbrev pub invariant-loop-done : goal.invariant-loop-done
invariant-loop-done l =
    (l.done ≤ length l.bytes) × ((p : ℕ) → content_byte l.blocks.items p ≡ overwritten l.place (take l.done l.bytes) (content_byte l.initial.blocks.items p) p)
    × (map is_some l.blocks.items ≡ map is_some l.initial.blocks.items)

abbrev pub decreases-loop-done : goal.decreases-loop-done
decreases-loop-done l = length l.bytes - l.done
