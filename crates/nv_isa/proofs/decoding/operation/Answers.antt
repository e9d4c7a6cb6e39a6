use Rattle.std.proofs.Common.{arith}
use Rattle.std.proofs.lemmas.Grind.{common_steps}
use Rattle.nv_isa.proofs.Fitting.{decoded-operation}
use Rattle.nv_isa.proofs.decoding.operation.Goals as goal

pub returns-in_err-op : goal.returns-in_err-op
returns-in_err-op c = grind (arith, common_steps, decoded-operation c.args.word (omega arith) c.key.result c.key.ensures)

pub returns : goal.returns
returns c = grind (arith, common_steps, decoded-operation c.args.word (omega arith) c.key.result c.key.ensures)
