use Rattle.std.proofs.Common.{rules}
use Rattle.nv_asm.proofs.Fitting.{fits-cast, fits-reserved}
use Rattle.nv_asm.proofs.statements.reserved.Goals as goal

pub single-requires : goal.single-requires
single-requires c =
    let w = c.flags.ensures.few in
    fits-cast c.args.op c.in_ok-rd.rd.number c.in_ok-rs1.rs1.number 0 c.flags.result (search rules)
    (fits-reserved c.args.op c.in_ok-rd.rd.number c.in_ok-rs1.rs1.number c.flags.result c.requires c.in_ok-rd.rd.small c.in_ok-rs1.rs1.small w.0 w.1)
