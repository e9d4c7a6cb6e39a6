-- The code's programs as the definitions see them.
use Rattle.std.specs.Prelude.{Result, Ok, Err}
use Rattle.nv_elf.specs.declared.program.Program.{Program}
use Rattle.nv_elf.specs.Elf.{Executable, executable_of}
use Rattle.nv_asm.specs.declared.fault.AsmFault.{AsmFault}

abbrev pub program_view : Result Program AsmFault → Result Executable AsmFault
program_view (Ok p) = Ok (executable_of p)
program_view (Err f) = Err f
