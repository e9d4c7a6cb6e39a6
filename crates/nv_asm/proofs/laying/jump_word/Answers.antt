use Rattle.std.proofs.Common.{rules}
use Rattle.nv_isa.specs.declared.op.Op.TheVariants as op
use Rattle.nv_asm.proofs.Fitting.{fits-cast, fits-jump}
use Rattle.nv_asm.proofs.laying.jump_word.Goals as goal

pub encode-requires : goal.encode-requires
encode-requires c =
    let rd = c.args.rd in
    fits-cast op.Jal rd.number 0 0 c.args.imm (search rules)
    (fits-jump rd.number c.args.imm rd.small c.requires.within.0 c.requires.within.1 c.requires.even)
