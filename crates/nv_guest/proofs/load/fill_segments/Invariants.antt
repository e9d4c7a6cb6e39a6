use Rattle.std.proofs.Common.{◌≡◌, map, drop}
use Rattle.nv_elf.specs.Elf.{segment_range}
use Rattle.nv_guest.specs.Load.{with_ranges}
use Rattle.nv_guest.proofs.load.fill_segments.Given as goal

abbrev pub invariant-loop-segment : goal.invariant-loop-segment
invariant-loop-segment l = record {
  same : l.memory.regions ≡ l.fn.memory.regions;
  written : with_ranges l.memory.bytes (map segment_range (drop l.segment-index l.segments)) ≡ with_ranges l.fn.memory.bytes (map segment_range l.segments);
}
