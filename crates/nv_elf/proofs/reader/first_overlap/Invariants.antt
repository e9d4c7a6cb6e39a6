use Rattle.std.proofs.Common.{◌≡◌, drop}
use Rattle.nv_elf.specs.Elf.{extent_of, overlap_from}
use Rattle.nv_elf.proofs.reader.first_overlap.Given as goal

-- what the headers from here on give is the answer
abbrev pub invariant-loop-lower : goal.invariant-loop-lower
invariant-loop-lower l = overlap_from extent_of l.lower (drop l.lower l.loadables) ≡ overlap_from extent_of 0 l.loadables
