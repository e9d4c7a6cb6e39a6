-- The code's statements as the definitions see them.
use Rattle.std.specs.Prelude.{ℕ, List, [], ◌∷◌, map, Result, Ok, Err}
use denote.Ref.{Bor}
use Rattle.nv_asm.specs.declared.fault.AsmCause.{AsmCause}
use Rattle.nv_asm.specs.declared.code.Insns.{Insns}
use Rattle.nv_asm.specs.declared.code.Insns.TheVariants.{One, Two}
use Rattle.nv_asm.specs.declared.code.Code.{Code}
use Rattle.nv_asm.specs.declared.code.Code.TheVariants as code
use Rattle.nv_asm.specs.declared.code.Word.{Word}
use Rattle.nv_asm.specs.declared.code.Word.TheVariants as word
use Rattle.nv_asm.specs.declared.code.Statement.{Statement}
use Rattle.nv_asm.specs.declared.code.Statement.TheVariants as statement
use Rattle.nv_asm.specs.Statements as rule

abbrev pub operand_texts : List (Bor (List ℕ)) → List (List ℕ)
operand_texts operands = map (λ operand. operand.now) operands

abbrev pub words_view : Insns → List ℕ
words_view (One a) = a ∷ []
words_view (Two a b) = a ∷ b ∷ []

abbrev pub code_view : Code → rule.Code
code_view (code.Fixed insns) = rule.Fixed (words_view insns)
code_view (code.Branch b) = rule.Branch b.op b.rs1 b.rs2 b.target.now
code_view (code.Jump rd target) = rule.Jump rd.number target.now
code_view (code.Load rd target) = rule.Load rd.number target.now

abbrev pub word_view : Word → rule.Word
word_view (word.Value n) = rule.Value n
word_view (word.Address name) = rule.Address name.now

abbrev pub view : Statement → rule.Statement
view statement.Blank = rule.Blank
view statement.Text = rule.Text
view statement.Data = rule.Data
view (statement.Bytes bytes) = rule.Bytes bytes.items
view (statement.Zero n) = rule.Zero n
view (statement.Words operands) = rule.Words (map rule.word_of (operand_texts operands.items))
view (statement.Entry name) = rule.Entry name.now
view (statement.Instruction c) = rule.Instruction (code_view c)
view statement.OffInstruction = rule.OffInstruction
view statement.OffData = rule.OffData
view (statement.OffWords operands) = rule.OffWords (map rule.word_of (operand_texts operands.items))

abbrev pub result_view : Result Statement AsmCause → Result rule.Statement AsmCause
result_view (Ok s) = Ok (view s)
result_view (Err c) = Err c
