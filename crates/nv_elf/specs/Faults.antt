-- The texts of refusals.
use Rattle.std.specs.Prelude.{ℕ, List, ◌++◌, codes}
use Rattle.std.specs.Fmt.{decimal}
use Rattle.nv_elf.specs.declared.program.ElfFault.{ElfFault}
use Rattle.nv_elf.specs.declared.program.ElfFault.TheVariants.{Short, Magic, Class, Kind, Machine, Flags, Header, Interpreted, Outside, Overlap, Entry, Memory}

abbrev pub elf_text : ElfFault → List ℕ
elf_text Short = codes "short"
elf_text Magic = codes "magic"
elf_text Class = codes "class"
elf_text Kind = codes "type"
elf_text Machine = codes "machine"
elf_text Flags = codes "flags"
elf_text Header = codes "header"
elf_text Interpreted = codes "interpreted"
elf_text (Outside i) = codes "outside " ++ decimal i
elf_text (Overlap i j) = codes "overlap " ++ (decimal i ++ (codes " " ++ decimal j))
elf_text Entry = codes "entry"
elf_text Memory = codes "memory"
