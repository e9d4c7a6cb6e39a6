use Rattle.std.proofs.Common.{sym, ◌∙◌}
use Rattle.nv_asm.specs.Statements.{is_word}
use Rattle.nv_asm.proofs.Walking.{all-not, all-later, all-end}
use Rattle.nv_asm.proofs.statements.are_words.Goals as goal

pub returns-then-not-is_word : goal.returns-then-not-is_word
returns-then-not-is_word c =
    sym (all-not is_word c.args.operands.now c.loop-operand.operand-index c.loop-operand-test.true (sym c.is_word.ensures ∙ c.if-not-is_word.true)) ∙ c.loop-operand.invariant

pub loop-operand-preserved : goal.loop-operand-preserved
loop-operand-preserved c =
    sym (all-later is_word c.args.operands.now c.loop-operand.operand-index c.loop-operand-test.true (sym c.is_word.ensures ∙ c.if-not-is_word.false)) ∙ c.loop-operand.invariant

pub returns : goal.returns
returns c = sym (all-end is_word c.args.operands.now c.loop-operand.operand-index c.loop-operand-test.false) ∙ c.loop-operand.invariant
