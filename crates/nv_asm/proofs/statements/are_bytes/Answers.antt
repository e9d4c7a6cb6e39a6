use Rattle.std.proofs.Common.{sym, ◌∙◌}
use Rattle.nv_asm.specs.Statements.{is_byte}
use Rattle.nv_asm.proofs.Walking.{all-not, all-later, all-end}
use Rattle.nv_asm.proofs.statements.are_bytes.Goals as goal

pub returns-then-not-is_byte : goal.returns-then-not-is_byte
returns-then-not-is_byte c =
    sym (all-not is_byte c.args.operands.now c.loop-operand.operand-index c.loop-operand-test.true (sym c.is_byte.ensures ∙ c.if-not-is_byte.true)) ∙ c.loop-operand.invariant

pub loop-operand-preserved : goal.loop-operand-preserved
loop-operand-preserved c =
    sym (all-later is_byte c.args.operands.now c.loop-operand.operand-index c.loop-operand-test.true (sym c.is_byte.ensures ∙ c.if-not-is_byte.false)) ∙ c.loop-operand.invariant

pub returns : goal.returns
returns c = sym (all-end is_byte c.args.operands.now c.loop-operand.operand-index c.loop-operand-test.false) ∙ c.loop-operand.invariant
