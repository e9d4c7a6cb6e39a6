-- The texts of refusals.
use Rattle.std.specs.Prelude.{ℕ, List, ◌++◌, codes}
use Rattle.std.specs.Fmt.{decimal}
use Rattle.nv_script.specs.declared.fault.ScriptCause.{ScriptCause}
use Rattle.nv_script.specs.declared.fault.ScriptCause.TheVariants.{Form, Word, Shape, Range, Twice, Long}
use Rattle.nv_script.specs.declared.fault.ScriptFault.{ScriptFault}
use Rattle.nv_script.specs.declared.fault.ScriptFault.TheVariants.{Line, Memory}

abbrev pub cause_word : ScriptCause → List ℕ
cause_word Form = codes "form"
cause_word Word = codes "word"
cause_word Shape = codes "shape"
cause_word Range = codes "range"
cause_word Twice = codes "twice"
cause_word Long = codes "long"

abbrev pub script_fault_text : ScriptFault → List ℕ
script_fault_text (Line n cause) = codes "line " ++ (decimal n ++ (codes " " ++ cause_word cause))
script_fault_text Memory = codes "memory"
