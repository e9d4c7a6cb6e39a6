use Rattle.std.proofs.Common.{arith, sym}
use Rattle.std.proofs.lemmas.Grind.{common_steps}
use Rattle.nv_isa.proofs.Masks.{decoded-key}
use Rattle.nv_isa.proofs.Fitting.{decoded-fits}
use Rattle.nv_isa.proofs.decoding.decode.Goals as goal

pub returns-in_err-op-clause-row : goal.returns-in_err-op-clause-row
returns-in_err-op-clause-row c = grind (arith, common_steps, decoded-key c.args.word (omega arith) c.key.result c.key.ensures)

pub returns-clause-row : goal.returns-clause-row
returns-clause-row c = grind (arith, common_steps, decoded-key c.args.word (omega arith) c.key.result c.key.ensures)

pub returns-clause-fits : goal.returns-clause-fits
returns-clause-fits c = decoded-fits c.args.word c.insn.result (sym (returns-clause-row c))
