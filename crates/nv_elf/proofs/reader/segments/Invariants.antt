use Rattle.std.proofs.Common.{◌≡◌, map, take}
use Rattle.nv_elf.specs.Elf.{segment_range, range_in}
use Rattle.nv_elf.proofs.reader.segments.Given as goal

abbrev pub invariant-loop-header : goal.invariant-loop-header
invariant-loop-header l = map segment_range l.segments.items ≡ map (range_in l.bytes) (take l.header-index l.loadables)
