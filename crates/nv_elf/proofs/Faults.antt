-- The first fault, by the stage that finds it.
use Rattle.std.proofs.Common.{◌≡◌, ℕ, List, Option, Some, None, refl}
use Rattle.nv_elf.specs.declared.program.ElfFault.{ElfFault}
use Rattle.nv_elf.specs.Elf.{file_fault, table_fault, loadables_fault, headers_of, loadables_of, entry_at, executable_in, elf_of, ElfOf, Refused, Accepted}
use Rattle.std.proofs.Common.{length}

pub refused-file : (b : List ℕ) (fault : ElfFault) → file_fault b ≡ Some fault → elf_of b ≡ Refused fault
unfolding elf_of
refused-file b fault file = rw file refl

pub refused-table : (b : List ℕ) (fault : ElfFault) → file_fault b ≡ None → table_fault (headers_of b) (loadables_of b) ≡ Some fault → elf_of b ≡ Refused fault
unfolding elf_of
refused-table b fault file table = rw (file, table) refl

pub refused-loadables : (b : List ℕ) (fault : ElfFault) → file_fault b ≡ None → table_fault (headers_of b) (loadables_of b) ≡ None
    → loadables_fault (length b) (entry_at b) (loadables_of b) ≡ Some fault → elf_of b ≡ Refused fault
unfolding elf_of
refused-loadables b fault file table loadables = rw (file, table, loadables) refl

pub accepted : (b : List ℕ) → file_fault b ≡ None → table_fault (headers_of b) (loadables_of b) ≡ None
    → loadables_fault (length b) (entry_at b) (loadables_of b) ≡ None → elf_of b ≡ Accepted (executable_in b)
unfolding elf_of
accepted b file table loadables = rw (file, table, loadables) refl
