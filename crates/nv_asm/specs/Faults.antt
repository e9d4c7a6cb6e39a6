-- The texts of refusals.
use Rattle.std.specs.Prelude.{ℕ, List, ◌++◌, codes}
use Rattle.std.specs.Fmt.{decimal}
use Rattle.nv_asm.specs.declared.fault.AsmCause.{AsmCause}
use Rattle.nv_asm.specs.declared.fault.AsmCause.TheVariants.{Twice, Mnemonic, Operand, Label, Range}
use Rattle.nv_asm.specs.declared.fault.AsmFault.{AsmFault}
use Rattle.nv_asm.specs.declared.fault.AsmFault.TheVariants.{Line, Memory}

abbrev pub asm_word : AsmCause → List ℕ
asm_word Twice = codes "twice"
asm_word Mnemonic = codes "mnemonic"
asm_word Operand = codes "operand"
asm_word Label = codes "label"
asm_word Range = codes "range"

abbrev pub asm_text : AsmFault → List ℕ
asm_text (Line n cause) = codes "line " ++ (decimal n ++ (codes " " ++ asm_word cause))
asm_text Memory = codes "memory"
