use Rattle.std.proofs.Common.{◌∙◌}
use Rattle.nv_outside.proofs.Writing.{puts-is}
use Rattle.nv_report.proofs.Spelling.{spelt}
use Rattle.nv_report.proofs.numbers.put_part.Goals as goal

pub returns : goal.returns
returns g c = puts-is (c.in-Ok.ensures.written ∙ spelt c.args.part.now c.type_inv.part) c.put_all.ensures
