-- The file that a program is written to.
use Rattle.std.specs.Prelude.{ℕ, List, [], ◌∷◌, ◌++◌, Bool, ◌&&◌, if◌then◌else◌, nat_lt, nat_le, is_none, ◌+◌, ◌-◌, ◌*◌, ◌%◌, ◌^◌, length, replicate, sum_by}
use Rattle.std.specs.List.{list_all}
use Rattle.byteorder.specs.Endian.{little_bytes}
use Rattle.nv_elf.specs.Elf.{Range, Executable, range_extent, overlap_from, can_be_entry}

-- some size, no more bytes than that, and an end that has 32 bits
abbrev pub is_sound : Range → Bool
is_sound r = nat_lt 0 r.size && (nat_le (length r.bytes) r.size && nat_lt (r.address + r.size) (2 ^ 32))

-- what every program that a file holds meets
unfoldable pub is_program : Executable → Bool
is_program p = nat_le (length p.ranges) 16 && (list_all is_sound p.ranges && (is_none (overlap_from range_extent 0 p.ranges) && can_be_entry range_extent p.entry p.ranges))

-- how many bytes the ranges have together
abbrev pub range_bytes : List Range → ℕ
range_bytes ranges = sum_by (λ r. length r.bytes) ranges

-- e_ident, e_type, e_machine, e_version, e_entry, e_phoff, e_shoff, e_flags, e_ehsize, e_phentsize, e_phnum, e_shentsize, e_shnum and e_shstrndx
unfoldable pub file_header : ℕ → ℕ → List ℕ
file_header entry count = 127 ∷ 69 ∷ 76 ∷ 70 ∷ 1 ∷ 1 ∷ 1 ∷ 0 ∷ 0 ∷ 0 ∷ 0 ∷ 0 ∷ 0 ∷ 0 ∷ 0 ∷ 0 ∷ (little_bytes 2 2
    ++ (little_bytes 2 243
    ++ (little_bytes 4 1
    ++ (little_bytes 4 entry
    ++ (little_bytes 4 52
    ++ (little_bytes 4 0
    ++ (little_bytes 4 0
    ++ (little_bytes 2 52
    ++ (little_bytes 2 32
    ++ (little_bytes 2 count
    ++ (little_bytes 2 0
    ++ (little_bytes 2 0
    ++ little_bytes 2 0))))))))))))

-- PF_R, PF_W and PF_X
abbrev pub flags_of : Range → ℕ
flags_of r = (if r.read then 4 else 0) + (if r.write then 2 else 0) + (if r.execute then 1 else 0)

-- p_type, p_offset, p_vaddr, p_paddr, p_filesz, p_memsz, p_flags and p_align
unfoldable pub program_header : ℕ → Range → List ℕ
program_header offset r = little_bytes 4 1
    ++ (little_bytes 4 offset
    ++ (little_bytes 4 r.address
    ++ (little_bytes 4 r.address
    ++ (little_bytes 4 (length r.bytes)
    ++ (little_bytes 4 r.size
    ++ (little_bytes 4 (flags_of r)
    ++ little_bytes 4 4))))))

-- how far a place is below a multiple of 4
abbrev pub padding : ℕ → ℕ
padding place = (4 - place % 4) % 4

-- the program headers of ranges whose bytes stand from a place on
abbrev pub table_from : ℕ → List Range → List ℕ
table_from place [] = []
table_from place (r ∷ ranges) = program_header (place + padding place) r ++ table_from (place + padding place + length r.bytes) ranges

-- the bytes of ranges from a place on, each at a multiple of 4
abbrev pub contents_from : ℕ → List Range → List ℕ
contents_from place [] = []
contents_from place (r ∷ ranges) = replicate (padding place) 0 ++ (r.bytes ++ contents_from (place + padding place + length r.bytes) ranges)

-- where the bytes of ranges from a place on end
abbrev pub end_from : ℕ → List Range → ℕ
end_from place [] = place
end_from place (r ∷ ranges) = end_from (place + padding place + length r.bytes) ranges

-- where the bytes begin after this many program headers
abbrev pub contents_at : ℕ → ℕ
contents_at count = 52 + 32 * count

-- the file header, the program headers and the bytes
unfoldable pub elf_bytes : Executable → List ℕ
elf_bytes p = file_header p.entry (length p.ranges) ++ (table_from (contents_at (length p.ranges)) p.ranges ++ contents_from (contents_at (length p.ranges)) p.ranges)
