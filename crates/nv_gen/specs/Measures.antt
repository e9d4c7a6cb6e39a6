-- What the code holds, as the definitions see it.
use Rattle.std.specs.Prelude.{ℕ}
use Rattle.std.proofs.Common.{Vec, Global}
use Rattle.nv_elf.specs.Elf.{ElfOf, elf_of}
use Rattle.nv_gen.specs.declared.measures.Measures.{Measures}
use Rattle.nv_gen.specs.declared.totals.Totals.{Totals}
use Rattle.nv_gen.specs.Made.{Numbers}
use Rattle.nv_gen.specs.Made as made

abbrev pub numbers_in : Measures → Numbers
numbers_in p = record { versions = p.versions; writes = p.writes; size = p.size; byte = p.byte }

-- what a file is read as
abbrev pub file_read_as : Vec ℕ Global → ElfOf
file_read_as file = elf_of file.items

abbrev pub totals_in : Totals → made.Totals
totals_in o = record { output = o.output; log = o.log; exited = o.exited; rewrites = o.rewrites }
