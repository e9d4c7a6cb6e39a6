use Rattle.std.proofs.Common.{sym, ◌∙◌}
use Rattle.nv_asm.specs.Statements.{is_item}
use Rattle.nv_asm.proofs.Walking.{all-not, all-later, all-end}
use Rattle.nv_asm.proofs.statements.are_items.Goals as goal

pub returns-then-not-is_item : goal.returns-then-not-is_item
returns-then-not-is_item c =
    sym (all-not is_item c.args.operands.now c.loop-operand.operand-index c.loop-operand-test.true (sym c.is_item.ensures ∙ c.if-not-is_item.true)) ∙ c.loop-operand.invariant

pub loop-operand-preserved : goal.loop-operand-preserved
loop-operand-preserved c =
    sym (all-later is_item c.args.operands.now c.loop-operand.operand-index c.loop-operand-test.true (sym c.is_item.ensures ∙ c.if-not-is_item.false)) ∙ c.loop-operand.invariant

pub returns : goal.returns
returns c = sym (all-end is_item c.args.operands.now c.loop-operand.operand-index c.loop-operand-test.false) ∙ c.loop-operand.invariant
