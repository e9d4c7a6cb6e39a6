use Rattle.std.proofs.Common.{refl}
use Rattle.nv_isa.specs.Table.{encoding}
use Rattle.nv_asm.specs.Forms.{kinds, is_lawful}
use Rattle.nv_asm.proofs.Finding.{defined-all}
use Rattle.nv_asm.proofs.forms.kind_of.Goals as goal

pub returns-clause-lawful : goal.returns-clause-lawful
unfolding kinds encoding
returns-clause-lawful c = rw c.find.ensures (defined-all is_lawful kinds c.args.word.now refl)
