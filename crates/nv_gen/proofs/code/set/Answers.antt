use Rattle.std.proofs.Common.{rules, sym, subst, arith}
use Rattle.nv_isa.specs.Spelling.{HasWord}
use Rattle.nv_gen.proofs.Fitting.{fits-sets}
use Rattle.nv_gen.proofs.code.set.Goals as goal

pub returns-clause-insn : goal.returns-clause-insn
returns-clause-insn c = search rules

pub returns-clause-fits : goal.returns-clause-fits
returns-clause-fits c = subst HasWord (sym (returns-clause-insn c)) (fits-sets c.args.rd c.args.value c.requires (omega arith))
