use Rattle.std.proofs.Common.{ℕ, List, [], ◌∷◌, ◌++◌, Bor, length, map, drop, ◌+◌, ap, refl, ◌∙◌}
use Rattle.nv_asm.specs.Statements.{byte_of}
use Rattle.nv_asm.specs.inner.Views.{operand_texts}
use Rattle.nv_asm.proofs.Walking.{rest-more, rest-end, none_given, length-texts}
use Rattle.nv_asm.proofs.statements.byte_list.Goals as goal

abbrev bytes : List (Bor (List ℕ)) → List ℕ
bytes xs = map byte_of (operand_texts xs)

abbrev one : Bor (List ℕ) → List ℕ
one x = byte_of x.now ∷ []

pub loop-operand-init : goal.loop-operand-init
loop-operand-init c = ap (λ before. before ++ bytes c.args.operands.now) c.new-bytes.ensures.items

pub loop-operand-preserved : goal.loop-operand-preserved
loop-operand-preserved c =
    ap (λ before. before ++ bytes (drop (c.loop-operand.operand-index + 1) c.args.operands.now)) c.in_ok-push.ensures.items
    ∙ rest-more bytes one (λ x xs. refl) c.loop-operand.bytes.items _ c.args.operands.now c.loop-operand.operand-index none_given c.loop-operand-test.true (ap (λ b. b ∷ []) c.byte_of.ensures)
    ∙ c.loop-operand.invariant

pub returns-clause-value : goal.returns-clause-value
returns-clause-value c = rest-end bytes refl c.loop-operand.bytes.items c.args.operands.now c.loop-operand.operand-index c.loop-operand-test.false ∙ c.loop-operand.invariant

pub returns-clause-len : goal.returns-clause-len
returns-clause-len c = ap length (returns-clause-value c) ∙ length-texts byte_of c.args.operands.now
