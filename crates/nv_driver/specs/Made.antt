-- What the commands over one file make of its content.
use Rattle.std.specs.Prelude.{ℕ, List, ◌++◌, length, codes, Result, Ok, Err}
use Rattle.std.specs.Fmt.{decimal}
use Rattle.nv_bpf.specs.declared.op.Op.{Op}
use Rattle.nv_bpf.specs.declared.op.FilterFault.{FilterFault}
use Rattle.nv_bpf.specs.Texts.{filter_of, ops_text}
use Rattle.nv_bpf_asm.specs.declared.fault.RuleFault.{RuleFault}
use Rattle.nv_bpf_asm.specs.Assembled.{assembled}
use Rattle.nv_elf.specs.Elf.{Executable}
use Rattle.nv_elf.specs.Written.{elf_bytes}
use Rattle.nv_asm.specs.declared.fault.AsmFault.{AsmFault}
use Rattle.nv_asm.specs.Assembled as asm
use Rattle.nv_driver.specs.Found.{Found, Whole, TooLong, Unread}
use Rattle.nv_driver.specs.declared.asked.Tool.{Tool}
use Rattle.nv_driver.specs.declared.asked.Tool.TheVariants.{CheckRules, AssembleRules, Assemble}
use Rattle.nv_driver.specs.declared.refusal.Cause.{Cause}
use Rattle.nv_driver.specs.declared.refusal.Cause.TheVariants.{Long, Filter, Rules, Asm}
use Rattle.nv_driver.specs.declared.tools.Unmade.{Unmade}
use Rattle.nv_driver.specs.declared.tools.Unmade.TheVariants.{Unreadable, Refused}

-- an accepted filter, by the number of its instructions
abbrev pub accepted_text : ℕ → List ℕ
accepted_text n = codes "ok " ++ (decimal n ++ codes "\n")

abbrev pub accepted_filter : Result (List Op) FilterFault → Result (List ℕ) Cause
accepted_filter (Ok ops) = Ok (accepted_text (length ops))
accepted_filter (Err fault) = Err (Filter fault)

abbrev pub of_rules : Result (List Op) RuleFault → Result (List ℕ) Cause
of_rules (Ok ops) = Ok (ops_text ops)
of_rules (Err fault) = Err (Rules fault)

abbrev pub of_program : Result Executable AsmFault → Result (List ℕ) Cause
of_program (Ok image) = Ok (elf_bytes image)
of_program (Err fault) = Err (Asm fault)

-- a filter has at most 4096 instructions
abbrev pub used : Tool → List ℕ → Result (List ℕ) Cause
used CheckRules bytes = accepted_filter (filter_of 4096 bytes)
used AssembleRules bytes = of_rules (assembled 4096 bytes)
used Assemble bytes = of_program (asm.assembled bytes)

abbrev pub unless_refused : Result (List ℕ) Cause → Result (List ℕ) Unmade
unless_refused (Ok text) = Ok text
unless_refused (Err cause) = Err (Refused cause)

-- what is made of a file by what is found of it, or why nothing is
abbrev pub made_of : Tool → Found → Result (List ℕ) Unmade
made_of tool (Whole bytes) = unless_refused (used tool bytes)
made_of tool TooLong = Err (Refused Long)
made_of tool Unread = Err Unreadable
