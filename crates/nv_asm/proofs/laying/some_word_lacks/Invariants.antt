use Rattle.std.proofs.Common.{◌≡◌, map, drop}
use Rattle.std.specs.List.{list_any}
use Rattle.nv_asm.specs.Statements.{word_of}
use Rattle.nv_asm.specs.inner.Views.{operand_texts}
use Rattle.nv_asm.specs.Assembled.{word_lacks}
use Rattle.nv_asm.specs.inner.Known.{known}
use Rattle.nv_asm.proofs.laying.some_word_lacks.Given as goal

abbrev pub invariant-loop-operand : goal.invariant-loop-operand
invariant-loop-operand l =
    list_any (word_lacks (known l.names l.text_len)) (map word_of (operand_texts (drop l.operand-index l.operands))) ≡ list_any (word_lacks (known l.names l.text_len)) (map word_of (operand_texts l.operands))
