use Rattle.std.proofs.Common.{◌≡◌, ◌++◌, map, drop}
use Rattle.nv_asm.specs.Statements.{byte_of}
use Rattle.nv_asm.specs.inner.Views.{operand_texts}
use Rattle.nv_asm.proofs.statements.byte_list.Given as goal

abbrev pub invariant-loop-operand : goal.invariant-loop-operand
invariant-loop-operand l = l.bytes.items ++ map byte_of (operand_texts (drop l.operand-index l.operands)) ≡ map byte_of (operand_texts l.operands)
