use Rattle.std.proofs.Common.{◌≡◌, drop}
use Rattle.std.specs.List.{list_all}
use Rattle.nv_asm.specs.Numbers.{is_number}
use Rattle.nv_asm.specs.inner.Views.{operand_texts}
use Rattle.nv_asm.proofs.statements.are_numbers.Given as goal

abbrev pub invariant-loop-operand : goal.invariant-loop-operand
invariant-loop-operand l = list_all is_number (operand_texts (drop l.operand-index l.operands)) ≡ list_all is_number (operand_texts l.operands)
