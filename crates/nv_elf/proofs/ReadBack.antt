-- A written file is read as the program that it was written from.
use Rattle.std.proofs.Common.{◌≡◌, ℕ, ◌+◌, ◌*◌, ◌^◌, ◌<◌, ◌≤◌, Bool, true, false, not, cond, ◌==◌, ◌&&◌, ◌||◌, nat_lt, nat_le, List, [], ◌++◌, Option, Some, None, is_none, length, map, filter, bit_and, sym, ap, refl, ◌∙◌, arith, append_assoc, length-append, lit<}
use Rattle.std.specs.List.{list_all}
use Rattle.std.proofs.lemmas.Bool.{and_parts}
use Rattle.std.proofs.lemmas.Bool.Decides.{nat_tests}
use Rattle.byteorder.specs.Numbers.{little_number-reads_back}
use Rattle.nv_bytes.specs.LittleEndian.{field_at}
use Rattle.nv_elf.specs.declared.header.ProgramHeader.{ProgramHeader}
use Rattle.nv_elf.specs.Elf.{Range, Executable, elf_of, Accepted, file_fault, table_fault, loadables_fault, has_magic, has_class, has_versions, has_table, headers_of, loadables_of, entry_at, is_loadable, range_in, range_extent, overlap_from, can_be_entry}
use Rattle.nv_elf.specs.Written.{is_program, is_sound, range_bytes, file_header, table_from, contents_from, contents_at, end_from, elf_bytes}
use Rattle.nv_elf.proofs.Tables.{headers_for, headers-read, ranges-read, length-table_from, length-contents_from, filter-headers_for, length-headers_for, none-interpreted, none-outside, overlap-same, entry-same, end-above, end-below}

-- what a program is
pub program-few : (p : Executable) → is_program p ≡ true → length p.ranges ≤ 16
unfolding is_program
program-few p sound = let few = (and_parts (nat_le (length p.ranges) 16) _ sound).0 in grind (arith, nat_tests)

pub program-sound : (p : Executable) → is_program p ≡ true → list_all is_sound p.ranges ≡ true
unfolding is_program
program-sound p sound = (and_parts (list_all is_sound p.ranges) _ (and_parts (nat_le (length p.ranges) 16) _ sound).1).0

none-from_test : {A : Type 0} (o : Option A) → is_none o ≡ true → o ≡ None
none-from_test None e = refl
none-from_test (Some x) e = cc

pub program-apart : (p : Executable) → is_program p ≡ true → overlap_from range_extent 0 p.ranges ≡ None
unfolding is_program
program-apart p sound = none-from_test (overlap_from range_extent 0 p.ranges)
    (and_parts (is_none (overlap_from range_extent 0 p.ranges)) _ (and_parts (list_all is_sound p.ranges) _ (and_parts (nat_le (length p.ranges) 16) _ sound).1).1).0

pub program-entry : (p : Executable) → is_program p ≡ true → can_be_entry range_extent p.entry p.ranges ≡ true
unfolding is_program
program-entry p sound =
    (and_parts (is_none (overlap_from range_extent 0 p.ranges)) _ (and_parts (list_all is_sound p.ranges) _ (and_parts (nat_le (length p.ranges) 16) _ sound).1).1).1

-- the fields of the file header read back
type-first : (entry count : ℕ) (rest : List ℕ) → field_at 2 (file_header entry count ++ rest) 16 ≡ 2
unfolding file_header field_at
type-first entry count rest = little_number-reads_back 2 2 [] (lit< tt)

machine-first : (entry count : ℕ) (rest : List ℕ) → field_at 2 (file_header entry count ++ rest) 18 ≡ 243
unfolding file_header field_at
machine-first entry count rest = little_number-reads_back 2 243 [] (lit< tt)

flags-first : (entry count : ℕ) (rest : List ℕ) → field_at 4 (file_header entry count ++ rest) 36 ≡ 0
unfolding file_header field_at
flags-first entry count rest = little_number-reads_back 4 0 [] (lit< tt)

version-first : (entry count : ℕ) (rest : List ℕ) → field_at 4 (file_header entry count ++ rest) 20 ≡ 1
unfolding file_header field_at
version-first entry count rest = little_number-reads_back 4 1 [] (lit< tt)

entry-first : (entry count : ℕ) (rest : List ℕ) → entry < 256 ^ 4 → field_at 4 (file_header entry count ++ rest) 24 ≡ entry
unfolding file_header field_at
entry-first entry count rest fits = little_number-reads_back 4 entry [] fits

table-first : (entry count : ℕ) (rest : List ℕ) → field_at 4 (file_header entry count ++ rest) 28 ≡ 52
unfolding file_header field_at
table-first entry count rest = little_number-reads_back 4 52 [] (lit< tt)

size-first : (entry count : ℕ) (rest : List ℕ) → field_at 2 (file_header entry count ++ rest) 42 ≡ 32
unfolding file_header field_at
size-first entry count rest = little_number-reads_back 2 32 [] (lit< tt)

count-first : (entry count : ℕ) (rest : List ℕ) → count < 256 ^ 2 → field_at 2 (file_header entry count ++ rest) 44 ≡ count
unfolding file_header field_at
count-first entry count rest fits = little_number-reads_back 2 count [] fits

magic-first : (entry count : ℕ) (rest : List ℕ) → has_magic (file_header entry count ++ rest) ≡ true
unfolding file_header
magic-first entry count rest = refl

class-first : (entry count : ℕ) (rest : List ℕ) → has_class (file_header entry count ++ rest) ≡ true
unfolding file_header
class-first entry count rest = refl

versions-first : (entry count : ℕ) (rest : List ℕ) → has_versions (file_header entry count ++ rest) ≡ true
unfolding file_header
versions-first entry count rest = ap (λ version. version == 1) (version-first entry count rest)

pub length-file_header : (entry count : ℕ) → length (file_header entry count) ≡ 52
unfolding file_header
length-file_header entry count = refl

-- a file whose header has these fields has no fault there
fault-none : (b : List ℕ) → 52 ≤ length b → has_magic b ≡ true → has_class b ≡ true → field_at 2 b 16 ≡ 2 → field_at 2 b 18 ≡ 243 → field_at 4 b 36 ≡ 0
    → has_versions b ≡ true → has_table b ≡ true → file_fault b ≡ None
unfolding file_fault
fault-none b long magic class kind machine flags versions table =
    let enough : nat_lt (length b) 52 ≡ false = grind (arith, nat_tests) in
    rw (enough, magic, class, kind, machine, flags, versions, table) refl

table-sound : (b : List ℕ) (count : ℕ) → field_at 2 b 44 ≡ count → count ≤ 16 → field_at 2 b 42 ≡ 32 → field_at 4 b 28 ≡ 52 → 52 + 32 * count ≤ length b → has_table b ≡ true
table-sound b count is few size at inside =
    let most : nat_le count 64 ≡ true = grind (arith, nat_tests) in
    let within : nat_le (52 + 32 * count) (length b) ≡ true = grind (arith, nat_tests) in
    rw (is, size, at, most, within) (either (count == 0)) where
      either : (x : Bool) → (x || true) ≡ true
      either true = refl
      either false = refl

table-none : (place : ℕ) (ranges : List Range) → list_all is_sound ranges ≡ true → length ranges ≤ 16 → table_fault (headers_for place ranges) (headers_for place ranges) ≡ None
unfolding table_fault
table-none place ranges sound few =
    let same = length-headers_for place ranges in
    let most : nat_lt 16 (length (headers_for place ranges)) ≡ false = grind (arith, nat_tests) in
    rw (most, none-interpreted place ranges) refl

loadables-none : (len place : ℕ) (p : Executable) → is_program p ≡ true → end_from place p.ranges ≤ len → loadables_fault len p.entry (headers_for place p.ranges) ≡ None
unfolding loadables_fault
loadables-none len place p sound inside =
    rw (
      none-outside len 0 place p.ranges (program-sound p sound) inside,
      overlap-same 0 place p.ranges,
      program-apart p sound,
      entry-same p.entry place p.ranges,
      program-entry p sound,
    ) refl

-- a file with these headers and bytes is read as the program
read-as : (p : Executable) (b : List ℕ) (place : ℕ) → is_program p ≡ true → file_fault b ≡ None → headers_of b ≡ headers_for place p.ranges → entry_at b ≡ p.entry
    → map (range_in b) (headers_for place p.ranges) ≡ p.ranges → end_from place p.ranges ≤ length b → elf_of b ≡ Accepted p
unfolding elf_of
read-as p b place sound file headers entry ranges inside =
    let loadables : loadables_of b ≡ headers_for place p.ranges = ap (filter is_loadable) headers ∙ filter-headers_for place p.ranges (program-sound p sound) in
    rw (
      file,
      headers,
      filter-headers_for place p.ranges (program-sound p sound),
      table-none place p.ranges (program-sound p sound) (program-few p sound),
      entry,
      loadables-none (length b) place p sound inside,
      ranges,
    ) refl

pub elf_of-file_of : (p : Executable) → is_program p ≡ true → p.entry < 2 ^ 32 → range_bytes p.ranges ≤ 1_073_741_824 → elf_of (elf_bytes p) ≡ Accepted p
unfolding elf_bytes
elf_of-file_of p sound entry small =
    let count : ℕ = length p.ranges in
    let place : ℕ = contents_at count in
    let header : List ℕ = file_header p.entry count in
    let table : List ℕ = table_from place p.ranges in
    let contents : List ℕ = contents_from place p.ranges in
    let few = program-few p sound in
    let all = program-sound p sound in
    let header_len = length-file_header p.entry count in
    let table_len = length-table_from place p.ranges in
    let end = length-contents_from place p.ranges in
    let below = end-below place p.ranges in
    let long : length (header ++ (table ++ contents)) ≡ end_from place p.ranges = omega (arith, length-append header (table ++ contents), length-append table contents) in
    let above = end-above place p.ranges in
    let at = table-first p.entry count (table ++ contents) in
    let number = count-first p.entry count (table ++ contents) (omega arith) in
    let file : file_fault (header ++ (table ++ contents)) ≡ None = fault-none (header ++ (table ++ contents)) (omega arith)
    (magic-first p.entry count (table ++ contents))
    (class-first p.entry count (table ++ contents))
    (type-first p.entry count (table ++ contents))
    (machine-first p.entry count (table ++ contents))
    (flags-first p.entry count (table ++ contents))
    (versions-first p.entry count (table ++ contents))
    (table-sound (header ++ (table ++ contents)) count number few (size-first p.entry count (table ++ contents)) at (omega arith)) in
    let headers : headers_of (header ++ (table ++ contents)) ≡ headers_for place p.ranges = rw (at, number) (rw header_len at (headers-read header contents place p.ranges (omega arith) all)) in
    let joined : header ++ (table ++ contents) ≡ (header ++ table) ++ contents = sym (append_assoc header table contents) in
    let ranges : map (range_in (header ++ (table ++ contents))) (headers_for place p.ranges) ≡ p.ranges =
    rw joined (ranges-read (header ++ table) place p.ranges (omega (arith, length-append header table))) in
    read-as p (header ++ (table ++ contents)) place sound file headers (entry-first p.entry count (table ++ contents) (omega arith)) ranges (omega arith)

-- a written file has a few thousand bytes more than its program at most, and so offsets of 32 bits
pub end-fits : (p : Executable) → is_program p ≡ true → range_bytes p.ranges ≤ 1_073_741_824 → end_from (contents_at (length p.ranges)) p.ranges < 2 ^ 32
end-fits p sound small =
    let few = program-few p sound in
    let below = end-below (contents_at (length p.ranges)) p.ranges in
    omega arith
