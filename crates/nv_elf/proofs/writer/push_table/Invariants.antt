use Rattle.std.proofs.Common.{◌≡◌, ◌++◌, map, drop}
use Rattle.nv_elf.specs.Elf.{segment_range}
use Rattle.nv_elf.specs.Written.{table_from, end_from}
use Rattle.nv_elf.proofs.writer.push_table.Given as goal

-- the headers so far and those of the rest are all
abbrev pub invariant-loop-segment : goal.invariant-loop-segment
invariant-loop-segment l = record {
  table : l.out.items ++ table_from l.place (map segment_range (drop l.segment-index l.segments)) ≡ l.initial.out.items ++ table_from l.initial.place (map segment_range l.segments);
  end : end_from l.place (map segment_range (drop l.segment-index l.segments)) ≡ end_from l.initial.place (map segment_range l.segments);
}
