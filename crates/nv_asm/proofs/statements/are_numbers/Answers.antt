use Rattle.std.proofs.Common.{sym, ◌∙◌}
use Rattle.nv_asm.specs.Numbers.{is_number}
use Rattle.nv_asm.proofs.Walking.{all-not, all-later, all-end}
use Rattle.nv_asm.proofs.statements.are_numbers.Goals as goal

pub returns-then-not-is_number : goal.returns-then-not-is_number
returns-then-not-is_number c =
    sym (all-not is_number c.args.operands.now c.loop-operand.operand-index c.loop-operand-test.true (sym c.is_number.ensures ∙ c.if-not-is_number.true)) ∙ c.loop-operand.invariant

pub loop-operand-preserved : goal.loop-operand-preserved
loop-operand-preserved c =
    sym (all-later is_number c.args.operands.now c.loop-operand.operand-index c.loop-operand-test.true (sym c.is_number.ensures ∙ c.if-not-is_number.false)) ∙ c.loop-operand.invariant

pub returns : goal.returns
returns c = sym (all-end is_number c.args.operands.now c.loop-operand.operand-index c.loop-operand-test.false) ∙ c.loop-operand.invariant
