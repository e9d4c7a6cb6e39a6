use Rattle.std.proofs.Common.{rules}
use Rattle.nv_asm.proofs.Fitting.{fits-cast, fits-branch}
use Rattle.nv_asm.proofs.laying.branch_word.Goals as goal

pub encode-requires : goal.encode-requires
encode-requires c =
    let b = c.args.branch in
    fits-cast b.op 0 b.rs1 b.rs2 c.args.imm (search rules)
    (fits-branch b.op b.rs1 b.rs2 c.args.imm b.is_branch b.rs1_small b.rs2_small c.requires.within.0 c.requires.within.1 c.requires.even)
