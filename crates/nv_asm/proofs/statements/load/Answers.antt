use Rattle.std.proofs.Common.{rules}
use Rattle.nv_asm.proofs.Fitting.{fits-cast, fits-immediate}
use Rattle.nv_asm.proofs.statements.load.Goals as goal

pub single-requires : goal.single-requires
single-requires c =
    let w = rw c.in-Some.is at c.in_ok-value.ensures.within in
    fits-cast c.args.op c.in_ok-rd.rd.number c.in_ok-rs1.rs1.number 0 c.in-Some.value (search rules)
    (fits-immediate c.args.op c.in_ok-rd.rd.number c.in_ok-rs1.rs1.number c.in-Some.value c.requires c.in_ok-rd.rd.small c.in_ok-rs1.rs1.small w.0 w.1)
