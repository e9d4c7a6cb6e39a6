use Rattle.std.specs.Prelude.{pos}
use Rattle.std.proofs.Common.{arith}
use Rattle.std.proofs.lemmas.Int.{ints}
use Rattle.nv_asm.proofs.Fitting.{fits-addi}
use Rattle.nv_asm.proofs.statements.move_register.Goals as goal

pub single-requires : goal.single-requires
single-requires c = fits-addi c.in_ok-rd.rd.number c.in_ok-rs1.rs1.number (pos 0) c.in_ok-rd.rd.small c.in_ok-rs1.rs1.small (omega (arith, ints)) (omega (arith, ints))
