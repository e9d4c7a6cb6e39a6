use Rattle.std.proofs.Common.{sym, ◌∙◌}
use Rattle.nv_elf.specs.Elf.{is_outside}
use Rattle.nv_elf.proofs.Headers.{none-placed}
use Rattle.nv_elf.proofs.reader.check_loadables.Goals as goal

pub returns-clause-inside : goal.returns-clause-inside
returns-clause-inside c = none-placed (is_outside c.args.len) 0 c.args.loadables.now (sym c.first_outside.ensures.place ∙ c.in_default.is)
