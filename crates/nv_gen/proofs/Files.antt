-- The programs are programs that a file holds, and their files are short.
use Rattle.std.proofs.Common.{◌≡◌, ℕ, ◌+◌, ◌^◌, ◌≤◌, true, refl, ap, ◌∙◌, nat_lt, nat_le, List, [], ◌∷◌, ◌++◌, length, length-append, arith}
use Rattle.std.proofs.lemmas.Bool.Decides.{nat_tests}
use Rattle.nv_elf.specs.Elf.{Executable}
use Rattle.nv_elf.specs.Written.{is_program, range_bytes, elf_bytes, file_header, table_from, contents_from}
use Rattle.nv_elf.proofs.ReadBack.{length-file_header}
use Rattle.nv_elf.proofs.Tables.{length-table_from, length-contents_from}
use Rattle.nv_gen.specs.Made.{Numbers, Course}
use Rattle.nv_gen.specs.Programs.{program, segment_bytes, course_range}

pub program-sound : (k : Numbers) (c : Course) → 68 ≤ length (segment_bytes k c) → length (segment_bytes k c) ≤ 300000 → is_program (program k c) ≡ true
unfolding is_program program
program-sound k c least most =
    let some : nat_lt 0 (length (segment_bytes k c)) ≡ true = grind (arith, nat_tests) in
    let fits : nat_le (length (segment_bytes k c)) (length (segment_bytes k c)) ≡ true = grind (arith, nat_tests) in
    let ends : nat_lt (65536 + length (segment_bytes k c)) (2 ^ 32) ≡ true = grind (arith, nat_tests) in
    let entry : nat_le 65604 (65536 + length (segment_bytes k c)) ≡ true = grind (arith, nat_tests) in
    rw (some, fits, ends, entry) refl

pub length-program : (k : Numbers) (c : Course) → length (elf_bytes (program k c)) ≡ 84 + length (segment_bytes k c)
unfolding elf_bytes program
length-program k c =
    omega (
      arith,
      length-append (file_header 65600 1) (table_from 84 (course_range k c ∷ []) ++ contents_from 84 (course_range k c ∷ [])),
      length-append (table_from 84 (course_range k c ∷ [])) (contents_from 84 (course_range k c ∷ [])),
      length-file_header 65600 1,
      length-table_from 84 (course_range k c ∷ []),
      length-contents_from 84 (course_range k c ∷ []),
    )

pub program-small : (k : Numbers) (c : Course) → length (segment_bytes k c) ≤ 300000 → range_bytes (program k c).ranges ≤ 1073741824
unfolding program
program-small k c most = omega arith

pub file-short : (k : Numbers) (c : Course) (p : Executable) (file : List ℕ) → length (segment_bytes k c) ≤ 300000 → p ≡ program k c → file ≡ elf_bytes p → length file ≤ 4194304
file-short k c p file most made written = let e = ap length written ∙ ap (λ (q : Executable). length (elf_bytes q)) made ∙ length-program k c in omega arith
