use Rattle.std.proofs.Common.{◌≡◌, ◌≤◌, length, map}
use Rattle.std.specs.Prelude.{All}
use Rattle.nv_elf.specs.Elf.{Accepted}
use Rattle.nv_gen.specs.Measures.{numbers_in, file_read_as}
use Rattle.nv_gen.specs.Programs.{programs_to}
use Rattle.nv_gen.proofs.made.versions.Given as goal

abbrev pub invariant-loop-index : goal.invariant-loop-index
invariant-loop-index l = record {
  programs : map file_read_as l.files.items ≡ map Accepted (programs_to (numbers_in l.measures) l.index);
  short : All (λ file. length file.items ≤ 4194304) l.files.items;
}
