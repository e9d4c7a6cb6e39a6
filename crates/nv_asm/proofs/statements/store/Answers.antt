use Rattle.std.proofs.Common.{rules}
use Rattle.nv_asm.proofs.Fitting.{fits-cast, fits-store}
use Rattle.nv_asm.proofs.statements.store.Goals as goal

pub single-requires : goal.single-requires
single-requires c =
    let w = rw c.in-Some.is at c.in_ok-value.ensures.within in
    fits-cast c.args.op 0 c.in_ok-rs1.rs1.number c.in_ok-rs2.rs2.number c.in-Some.value (search rules)
    (fits-store c.args.op c.in_ok-rs1.rs1.number c.in_ok-rs2.rs2.number c.in-Some.value c.requires c.in_ok-rs1.rs1.small c.in_ok-rs2.rs2.small w.0 w.1)
