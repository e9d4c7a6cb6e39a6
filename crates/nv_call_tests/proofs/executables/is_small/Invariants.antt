use Rattle.std.proofs.Common.{◌≡◌, ◌+◌, map, drop}
use Rattle.nv_elf.specs.Elf.{segment_range}
use Rattle.nv_elf.specs.Written.{range_bytes}
use Rattle.nv_call_tests.proofs.executables.is_small.Given as goal

-- what is left is less by the bytes of the segments so far
abbrev pub invariant-loop-segment : goal.invariant-loop-segment
invariant-loop-segment l =
    l.left + range_bytes (map segment_range l.program.segments.items) ≡ 1_073_741_824 + range_bytes (map segment_range (drop l.segment-index l.program.segments.items))
