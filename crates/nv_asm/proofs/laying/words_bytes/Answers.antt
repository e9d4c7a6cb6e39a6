use Rattle.std.proofs.Common.{ℕ, List, ◌++◌, ◌+◌, Bor, map, drop, ap, refl, ◌∙◌}
use Rattle.std.specs.Int.{w32, to_le_bytes}
use Rattle.nv_asm.specs.Statements.{word_of}
use Rattle.nv_asm.specs.inner.Views.{operand_texts}
use Rattle.nv_asm.specs.Assembled.{Whole, word_value, le_words}
use Rattle.nv_asm.specs.inner.Known.{known}
use Rattle.nv_asm.proofs.Walking.{rest-more, rest-end, none_given}
use Rattle.nv_asm.proofs.laying.words_bytes.Goals as goal

abbrev bytes : Whole → List (Bor (List ℕ)) → List ℕ
bytes w xs = le_words (map (word_value w) (map word_of (operand_texts xs)))

abbrev one : Whole → Bor (List ℕ) → List ℕ
one w x = to_le_bytes w32 (word_value w (word_of x.now))

pub loop-operand-init : goal.loop-operand-init
loop-operand-init c = ap (λ before. before ++ bytes (known c.args.names.now c.args.text_len) c.args.operands.now) c.new-bytes.ensures.items

pub loop-operand-preserved : goal.loop-operand-preserved
loop-operand-preserved c =
    let w = known c.args.names.now c.args.text_len in
    ap (λ before. before ++ bytes w (drop (c.loop-operand.operand-index + 1) c.args.operands.now)) c.in_ok-push_word.ensures
    ∙ rest-more (bytes w) (one w) (λ x xs. refl) c.loop-operand.bytes.items _ c.args.operands.now c.loop-operand.operand-index none_given c.loop-operand-test.true
    (ap (to_le_bytes w32) (c.word_value.ensures ∙ ap (word_value w) c.word_of.ensures))
    ∙ c.loop-operand.invariant

pub returns : goal.returns
returns c =
    let w = known c.args.names.now c.args.text_len in
    rest-end (bytes w) refl c.loop-operand.bytes.items c.args.operands.now c.loop-operand.operand-index c.loop-operand-test.false ∙ c.loop-operand.invariant
