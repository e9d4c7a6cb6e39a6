use Rattle.std.proofs.Common.{◌≡◌, ◌++◌, map, drop}
use Rattle.nv_asm.specs.Statements.{word_of}
use Rattle.nv_asm.specs.inner.Views.{operand_texts}
use Rattle.nv_asm.specs.Assembled.{word_value, le_words}
use Rattle.nv_asm.specs.inner.Known.{known}
use Rattle.nv_asm.proofs.laying.words_bytes.Given as goal

abbrev pub invariant-loop-operand : goal.invariant-loop-operand
invariant-loop-operand l =
    l.bytes.items ++ le_words (map (word_value (known l.names l.text_len)) (map word_of (operand_texts (drop l.operand-index l.operands))))
    ≡ le_words (map (word_value (known l.names l.text_len)) (map word_of (operand_texts l.operands)))
