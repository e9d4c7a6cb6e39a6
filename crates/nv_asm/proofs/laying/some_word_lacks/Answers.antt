use Rattle.std.proofs.Common.{ℕ, Bool, List, Bor, map, ap, refl, sym, ◌∙◌}
use Rattle.std.specs.List.{list_any}
use Rattle.nv_asm.specs.Statements.{word_of}
use Rattle.nv_asm.specs.inner.Views.{operand_texts}
use Rattle.nv_asm.specs.Assembled.{Whole, word_lacks}
use Rattle.nv_asm.specs.inner.Known.{known}
use Rattle.nv_asm.proofs.Walking.{test-here, test-later, test-end, none_given}
use Rattle.nv_asm.proofs.laying.some_word_lacks.Goals as goal

abbrev some : Whole → List (Bor (List ℕ)) → Bool
some w xs = list_any (word_lacks w) (map word_of (operand_texts xs))

abbrev one : Whole → Bor (List ℕ) → Bool
one w x = word_lacks w (word_of x.now)

pub returns-then-word_lacks : goal.returns-then-word_lacks
returns-then-word_lacks c =
    let w = known c.args.names.now c.args.text_len in
    sym (test-here (some w) (one w) (λ x xs. refl) c.args.operands.now c.loop-operand.operand-index none_given c.loop-operand-test.true
    (ap (word_lacks w) (sym c.word_of.ensures) ∙ sym c.word_lacks.ensures ∙ c.if-word_lacks.true)) ∙ c.loop-operand.invariant

pub loop-operand-preserved : goal.loop-operand-preserved
loop-operand-preserved c =
    let w = known c.args.names.now c.args.text_len in
    sym (test-later (some w) (one w) (λ x xs. refl) c.args.operands.now c.loop-operand.operand-index none_given c.loop-operand-test.true
    (ap (word_lacks w) (sym c.word_of.ensures) ∙ sym c.word_lacks.ensures ∙ c.if-word_lacks.false)) ∙ c.loop-operand.invariant

pub returns : goal.returns
returns c =
    let w = known c.args.names.now c.args.text_len in
    sym (test-end (some w) refl c.args.operands.now c.loop-operand.operand-index c.loop-operand-test.false) ∙ c.loop-operand.invariant
