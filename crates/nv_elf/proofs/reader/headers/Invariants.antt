use Rattle.std.proofs.Common.{◌≡◌}
use Rattle.nv_elf.specs.Elf.{headers_from}
use Rattle.nv_elf.proofs.reader.headers.Given as goal

abbrev pub invariant-loop-i : goal.invariant-loop-i
invariant-loop-i l = l.headers.items ≡ headers_from l.bytes l.start l.i
