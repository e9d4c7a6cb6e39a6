use Rattle.std.proofs.Common.{◌*◌, rules}
use Rattle.std.specs.Int.{w32, cast_signed}
use Rattle.nv_isa.specs.declared.op.Op.TheVariants as op
use Rattle.nv_asm.proofs.Fitting.{fits-as, fits-cast, fits-lui, fits-addi}
use Rattle.nv_asm.proofs.statements.loading.Goals as goal

pub encode-requires : goal.encode-requires
encode-requires c =
    fits-as op.Lui c.args.rd 0 0 c.cast_signed.result (cast_signed w32 (4096 * c.upper.result)) (search rules) c.cast_signed.ensures
    (fits-lui c.args.rd c.upper.result c.requires c.upper.ensures.small)

pub encode-requires-2 : goal.encode-requires-2
encode-requires-2 c =
    fits-cast op.Addi c.args.rd c.args.rd 0 c.lower.result (search rules)
    (fits-addi c.args.rd c.args.rd c.lower.result c.requires c.requires c.lower.ensures.within.0 c.lower.ensures.within.1)
