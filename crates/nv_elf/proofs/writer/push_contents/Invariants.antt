use Rattle.std.proofs.Common.{◌≡◌, ◌++◌, map, drop, length}
use Rattle.nv_elf.specs.Elf.{segment_range}
use Rattle.nv_elf.specs.Written.{contents_from}
use Rattle.nv_elf.proofs.writer.push_contents.Given as goal

-- the bytes so far and those of the rest are all
abbrev pub invariant-loop-segment : goal.invariant-loop-segment
invariant-loop-segment l =
    l.out.items ++ contents_from (length l.out.items) (map segment_range (drop l.segment-index l.segments))
    ≡ l.initial.out.items ++ contents_from (length l.initial.out.items) (map segment_range l.segments)
