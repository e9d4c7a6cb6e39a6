use Rattle.std.proofs.Common.{◌≤◌, IsTrue, sym, subst}
use Rattle.nv_elf.specs.Elf.{Executable}
use Rattle.nv_elf.specs.Written.{is_program, range_bytes}
use Rattle.nv_gen.proofs.Files.{program-sound, program-small, file-short}
use Rattle.nv_gen.proofs.version.version.Goals as goal

pub write-requires-clause-sound : goal.write-requires-clause-sound
write-requires-clause-sound c =
    subst (λ (p : Executable). IsTrue (is_program p)) (sym c.in_ok-program.ensures.image) (program-sound _ _ c.in_ok-program.ensures.long c.in_ok-program.ensures.short)

pub write-requires-clause-small : goal.write-requires-clause-small
write-requires-clause-small c = subst (λ (p : Executable). range_bytes p.ranges ≤ 1073741824) (sym c.in_ok-program.ensures.image) (program-small _ _ c.in_ok-program.ensures.short)

pub returns-clause-short : goal.returns-clause-short
returns-clause-short c = file-short _ _ _ _ c.in_ok-program.ensures.short c.in_ok-program.ensures.image c.in_ok-file.ensures.file
