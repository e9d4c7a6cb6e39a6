-- Why a file is refused, as the text that says so: each fault has its own.
use Rattle.std.specs.Prelude.{ℕ, List, codes}
use Rattle.nv_script.specs.Texts.{script_fault_text}
use Rattle.nv_elf.specs.Faults.{elf_text}
use Rattle.nv_guest.specs.Faults.{guest_text}
use Rattle.nv_bpf.specs.Faults.{filter_text}
use Rattle.nv_bpf_asm.specs.Faults.{rules_text}
use Rattle.nv_asm.specs.Faults.{asm_text}
use Rattle.nv_trace.specs.Texts.{trace_text, check_text}
use Rattle.nv_driver.specs.declared.refusal.Cause.{Cause}
use Rattle.nv_driver.specs.declared.refusal.Cause.TheVariants.{Long, Script, Comes, Elf, Guest, Filter, Rules, Asm, Trace, Check}

abbrev pub cause_text : Cause → List ℕ
cause_text Long = codes "long"
cause_text (Script fault) = script_fault_text fault
cause_text Comes = codes "comes"
cause_text (Elf fault) = elf_text fault
cause_text (Guest fault) = guest_text fault
cause_text (Filter fault) = filter_text fault
cause_text (Rules fault) = rules_text fault
cause_text (Asm fault) = asm_text fault
cause_text (Trace fault) = trace_text fault
cause_text (Check fault) = check_text fault
