-- The texts of refusals.
use Rattle.std.specs.Prelude.{ℕ, List, ◌++◌, codes}
use Rattle.std.specs.Fmt.{decimal}
use Rattle.nv_bpf.specs.Faults.{filter_text}
use Rattle.nv_bpf_asm.specs.declared.fault.RuleCause.{RuleCause}
use Rattle.nv_bpf_asm.specs.declared.fault.RuleCause.TheVariants.{Twice, Word, Operand, Label, Far}
use Rattle.nv_bpf_asm.specs.declared.fault.RuleFault.{RuleFault}
use Rattle.nv_bpf_asm.specs.declared.fault.RuleFault.TheVariants.{Line, Filter, Memory}

abbrev pub rule_word : RuleCause → List ℕ
rule_word Twice = codes "twice"
rule_word Word = codes "word"
rule_word Operand = codes "operand"
rule_word Label = codes "label"
rule_word Far = codes "far"

abbrev pub rules_text : RuleFault → List ℕ
rules_text (Line n cause) = codes "line " ++ (decimal n ++ (codes " " ++ rule_word cause))
rules_text (Filter fault) = filter_text fault
rules_text Memory = codes "memory"
