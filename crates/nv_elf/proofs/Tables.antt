-- The tables and the bytes of a written file, as they are read.
use Rattle.std.proofs.Common.{◌≡◌, ℕ, suc, ◌+◌, ◌*◌, ◌-◌, ◌%◌, ◌^◌, ◌<◌, ◌≤◌, Bool, true, false, not, cond, ◌==◌, ◌&&◌, ◌||◌, nat_lt, nat_le, List, [], ◌∷◌, ◌++◌, Option, Some, None, option_map, is_none, length, take, drop, map, filter, replicate, bit_and, sym, ap, refl, ◌∙◌, arith, append_assoc, length-append, lit<}
use Rattle.std.specs.Prelude.{sum_by, if◌then◌else◌}
use Rattle.std.specs.Option.{option_or}
use Rattle.std.specs.List.{list_all, list_any, position_from}
use Rattle.std.proofs.Math.Nat.{mod-lt}
use Rattle.std.proofs.lemmas.Bool.{and_parts}
use Rattle.std.proofs.lemmas.Bool.Decides.{nat_tests}
use Rattle.std.proofs.lemmas.List.{drop_at, take_at, length-replicate}
use Rattle.std.proofs.lemmas.List.Sums.{sum_by-cons}
use Rattle.byteorder.specs.Endian.{little_bytes}
use Rattle.byteorder.specs.Numbers.{little_number-reads_back}
use Rattle.nv_bytes.specs.LittleEndian.{field_at}
use Rattle.nv_bytes.proofs.FieldLaws.{field_at-append}
use Rattle.nv_elf.specs.declared.header.ProgramHeader.{ProgramHeader}
use Rattle.nv_elf.specs.Elf.{Range, Extent, header_at, headers_from, is_loadable, is_interpreted, is_outside, extent_of, range_extent, shares, overlap_from, holds_entry, can_be_entry, range_in}
use Rattle.nv_elf.specs.Written.{is_sound, range_bytes, flags_of, program_header, padding, table_from, contents_from, end_from}

-- the program header of a range whose bytes stand at a place
abbrev pub header_for : ℕ → Range → ProgramHeader
header_for offset r = record { kind = 1; offset = offset; address = r.address; file_size = length r.bytes; memory_size = r.size; flags = flags_of r }

-- the place after the bytes of a range
abbrev pub after : ℕ → Range → ℕ
after place r = place + padding place + length r.bytes

-- the program headers of ranges whose bytes stand from a place on
abbrev pub headers_for : ℕ → List Range → List ProgramHeader
headers_for place [] = []
headers_for place (r ∷ ranges) = header_for (place + padding place) r ∷ headers_for (after place r) ranges

-- what a sound range keeps
pub sound-size : (r : Range) → is_sound r ≡ true → 0 < r.size
sound-size r e = let first = (and_parts (nat_lt 0 r.size) (nat_le (length r.bytes) r.size && nat_lt (r.address + r.size) (2 ^ 32)) e).0 in grind (arith, nat_tests)

pub sound-bytes : (r : Range) → is_sound r ≡ true → length r.bytes ≤ r.size
sound-bytes r e = let inner = and_parts (nat_le (length r.bytes) r.size) (nat_lt (r.address + r.size) (2 ^ 32)) (and_parts (nat_lt 0 r.size) (nat_le (length r.bytes) r.size && nat_lt (r.address + r.size) (2 ^ 32)) e).1 in grind (arith, nat_tests)

pub sound-end : (r : Range) → is_sound r ≡ true → r.address + r.size < 2 ^ 32
sound-end r e = let inner = and_parts (nat_le (length r.bytes) r.size) (nat_lt (r.address + r.size) (2 ^ 32)) (and_parts (nat_lt 0 r.size) (nat_le (length r.bytes) r.size && nat_lt (r.address + r.size) (2 ^ 32)) e).1 in grind (arith, nat_tests)

pub padding-lt : (place : ℕ) → padding place < 4
padding-lt place = mod-lt (4 - place % 4) (omega arith)

-- the end is no place before the beginning
pub end-above : (place : ℕ) (ranges : List Range) → place ≤ end_from place ranges
end-above place [] = omega arith
end-above place (r ∷ ranges) = let next : end_from place (r ∷ ranges) ≡ end_from (after place r) ranges = refl in omega (arith, end-above (after place r) ranges)

-- the end is after the bytes and at most three bytes of padding for each range
pub end-below : (place : ℕ) (ranges : List Range) → end_from place ranges ≤ place + range_bytes ranges + 3 * length ranges
end-below place [] = omega arith
end-below place (r ∷ ranges) =
    let next : end_from place (r ∷ ranges) ≡ end_from (after place r) ranges = refl in
    let all : range_bytes (r ∷ ranges) ≡ length r.bytes + range_bytes ranges = sum_by-cons (λ x. length x.bytes) r ranges in
    omega (arith, end-below (after place r) ranges, padding-lt place)

-- the rights stand in the flags
rights : (read write execute : Bool) → let flags : ℕ = (if read then 4 else 0) + (if write then 2 else 0) + (if execute then 1 else 0) in
    (flags < 256 ^ 4) × (not (bit_and flags 4 == 0) ≡ read) × (not (bit_and flags 2 == 0) ≡ write) × (not (bit_and flags 1 == 0) ≡ execute)
rights true true true = (omega arith, refl, refl, refl)
rights true true false = (omega arith, refl, refl, refl)
rights true false true = (omega arith, refl, refl, refl)
rights true false false = (omega arith, refl, refl, refl)
rights false true true = (omega arith, refl, refl, refl)
rights false true false = (omega arith, refl, refl, refl)
rights false false true = (omega arith, refl, refl, refl)
rights false false false = (omega arith, refl, refl, refl)

-- the fields of a program header read back
kind-first : (offset : ℕ) (r : Range) (rest : List ℕ) → field_at 4 (program_header offset r ++ rest) 0 ≡ 1
unfolding program_header field_at
kind-first offset r rest = little_number-reads_back 4 1 [] (lit< tt)

offset-first : (offset : ℕ) (r : Range) (rest : List ℕ) → offset < 256 ^ 4 → field_at 4 (program_header offset r ++ rest) 4 ≡ offset
unfolding program_header field_at
offset-first offset r rest fits = little_number-reads_back 4 offset [] fits

address-first : (offset : ℕ) (r : Range) (rest : List ℕ) → r.address < 256 ^ 4 → field_at 4 (program_header offset r ++ rest) 8 ≡ r.address
unfolding program_header field_at
address-first offset r rest fits = little_number-reads_back 4 r.address [] fits

file_size-first : (offset : ℕ) (r : Range) (rest : List ℕ) → length r.bytes < 256 ^ 4 → field_at 4 (program_header offset r ++ rest) 16 ≡ length r.bytes
unfolding program_header field_at
file_size-first offset r rest fits = little_number-reads_back 4 (length r.bytes) [] fits

memory_size-first : (offset : ℕ) (r : Range) (rest : List ℕ) → r.size < 256 ^ 4 → field_at 4 (program_header offset r ++ rest) 20 ≡ r.size
unfolding program_header field_at
memory_size-first offset r rest fits = little_number-reads_back 4 r.size [] fits

flags-first : (offset : ℕ) (r : Range) (rest : List ℕ) → flags_of r < 256 ^ 4 → field_at 4 (program_header offset r ++ rest) 24 ≡ flags_of r
unfolding program_header field_at
flags-first offset r rest fits = little_number-reads_back 4 (flags_of r) [] fits

length-program_header : (offset : ℕ) (r : Range) → length (program_header offset r) ≡ 32
unfolding program_header
length-program_header offset r = refl

-- a program header reads back after other bytes
header-read : (before rest : List ℕ) (offset : ℕ) (r : Range) → offset < 2 ^ 32 → is_sound r ≡ true →
    header_at (before ++ (program_header offset r ++ rest)) (length before) ≡ header_for offset r
unfolding header_at
header-read before rest offset r fits sound =
    let bytes = sound-bytes r sound in
    let end = sound-end r sound in
    let at : (place : ℕ) → field_at 4 (before ++ (program_header offset r ++ rest)) (length before + place) ≡ field_at 4 (program_header offset r ++ rest) place =
    λ place. field_at-append 4 before (program_header offset r ++ rest) place in
    let first : field_at 4 (before ++ (program_header offset r ++ rest)) (length before) ≡ 1 =
    ap (field_at 4 (before ++ (program_header offset r ++ rest))) (omega arith) ∙ at 0 ∙ kind-first offset r rest in
    rw (
      first,
      at 4 ∙ offset-first offset r rest (omega arith),
      at 8 ∙ address-first offset r rest (omega arith),
      at 16 ∙ file_size-first offset r rest (omega arith),
      at 20 ∙ memory_size-first offset r rest (omega arith),
      at 24 ∙ flags-first offset r rest (rights r.read r.write r.execute).0,
    ) refl

-- the table of program headers reads back
pub headers-read : (before rest : List ℕ) (place : ℕ) (ranges : List Range) → end_from place ranges < 2 ^ 32 → list_all is_sound ranges ≡ true →
    headers_from (before ++ (table_from place ranges ++ rest)) (length before) (length ranges) ≡ headers_for place ranges
headers-read before rest place [] fits sound = refl
headers-read before rest place (r ∷ ranges) fits sound =
    let offset : ℕ = place + padding place in
    let header : List ℕ = program_header offset r in
    let more : List ℕ = table_from (after place r) ranges ++ rest in
    let parts = and_parts (is_sound r) (list_all is_sound ranges) sound in
    let next : end_from place (r ∷ ranges) ≡ end_from (after place r) ranges = refl in
    let above = end-above (after place r) ranges in
    let whole : before ++ ((header ++ table_from (after place r) ranges) ++ rest) ≡ before ++ (header ++ more) = ap (λ xs. before ++ xs) (append_assoc header (table_from (after place r) ranges) rest) in
    let later : before ++ (header ++ more) ≡ (before ++ header) ++ more = sym (append_assoc before header more) in
    let further : length before + 32 ≡ length (before ++ header) = sym (length-append before header ∙ ap (λ n. length before + n) (length-program_header offset r)) in
    let here : header_at (before ++ (header ++ more)) (length before) ≡ header_for offset r = header-read before more offset r (omega arith) parts.0 in
    let rest_read : headers_from (before ++ (header ++ more)) (length before + 32) (length ranges) ≡ headers_for (after place r) ranges =
    rw (later, further) (headers-read (before ++ header) rest (after place r) ranges (omega arith) parts.1) in
    ap (λ b. headers_from b (length before) (length (r ∷ ranges))) whole
    ∙ ap (λ h. h ∷ headers_from (before ++ (header ++ more)) (length before + 32) (length ranges)) here ∙ ap (λ hs. header_for offset r ∷ hs) rest_read

-- the bytes of the ranges read back
pub ranges-read : (before : List ℕ) (place : ℕ) (ranges : List Range) → length before ≡ place →
    map (range_in (before ++ contents_from place ranges)) (headers_for place ranges) ≡ ranges
ranges-read before place [] place_is = refl
ranges-read before place (r ∷ ranges) place_is =
    let zeros : List ℕ = replicate (padding place) 0 in
    let more : List ℕ = contents_from (after place r) ranges in
    let padded : before ++ (zeros ++ (r.bytes ++ more)) ≡ (before ++ zeros) ++ (r.bytes ++ more) = sym (append_assoc before zeros (r.bytes ++ more)) in
    let passed : (before ++ zeros) ++ (r.bytes ++ more) ≡ ((before ++ zeros) ++ r.bytes) ++ more = sym (append_assoc (before ++ zeros) r.bytes more) in
    let long : length (before ++ zeros) ≡ place + padding place = omega (arith, length-append before zeros, length-replicate {A = ℕ} (padding place) 0) in
    let longer : length ((before ++ zeros) ++ r.bytes) ≡ after place r = omega (arith, length-append (before ++ zeros) r.bytes) in
    let bytes : take (length r.bytes) (drop (place + padding place) ((before ++ zeros) ++ (r.bytes ++ more))) ≡ r.bytes =
    ap (take (length r.bytes)) (drop_at (before ++ zeros) (r.bytes ++ more) (place + padding place) long) ∙ take_at r.bytes more (length r.bytes) refl in
    let flags = rights r.read r.write r.execute in
    let here : range_in ((before ++ zeros) ++ (r.bytes ++ more)) (header_for (place + padding place) r) ≡ r = rw (bytes, flags.1, flags.2, flags.3) refl in
    let later : map (range_in ((before ++ zeros) ++ (r.bytes ++ more))) (headers_for (after place r) ranges) ≡ ranges =
    rw passed (ranges-read ((before ++ zeros) ++ r.bytes) (after place r) ranges longer) in
    ap (λ b. map (range_in b) (headers_for place (r ∷ ranges))) padded
    ∙ ap (λ x. x ∷ map (range_in ((before ++ zeros) ++ (r.bytes ++ more))) (headers_for (after place r) ranges)) here ∙ ap (λ xs. r ∷ xs) later

pub length-table_from : (place : ℕ) (ranges : List Range) → length (table_from place ranges) ≡ 32 * length ranges
length-table_from place [] = refl
length-table_from place (r ∷ ranges) =
    omega (arith, length-append (program_header (place + padding place) r) (table_from (after place r) ranges), length-program_header (place + padding place) r, length-table_from (after place r) ranges)

pub length-contents_from : (place : ℕ) (ranges : List Range) → place + length (contents_from place ranges) ≡ end_from place ranges
length-contents_from place [] = omega arith
length-contents_from place (r ∷ ranges) =
    let zeros : List ℕ = replicate (padding place) 0 in
    let more : List ℕ = contents_from (after place r) ranges in
    omega (arith, length-append zeros (r.bytes ++ more), length-append r.bytes more, length-replicate {A = ℕ} (padding place) 0, length-contents_from (after place r) ranges)

-- the headers of sound ranges are loadable ones
pub filter-headers_for : (place : ℕ) (ranges : List Range) → list_all is_sound ranges ≡ true → filter is_loadable (headers_for place ranges) ≡ headers_for place ranges
filter-headers_for place [] sound = refl
filter-headers_for place (r ∷ ranges) sound =
    let parts = and_parts (is_sound r) (list_all is_sound ranges) sound in
    let some : nat_lt 0 r.size ≡ true = let size = sound-size r parts.0 in grind (arith, nat_tests) in
    rw (some, filter-headers_for (after place r) ranges parts.1) refl

pub length-headers_for : (place : ℕ) (ranges : List Range) → length (headers_for place ranges) ≡ length ranges
length-headers_for place [] = refl
length-headers_for place (r ∷ ranges) = ap (λ n. suc n) (length-headers_for (after place r) ranges)

pub none-interpreted : (place : ℕ) (ranges : List Range) → list_any is_interpreted (headers_for place ranges) ≡ false
none-interpreted place [] = refl
none-interpreted place (r ∷ ranges) = none-interpreted (after place r) ranges

header-inside : (len offset : ℕ) (r : Range) → is_sound r ≡ true → offset + length r.bytes ≤ len → is_outside len (header_for offset r) ≡ false
unfolding is_outside
header-inside len offset r sound inside =
    let bytes = sound-bytes r sound in
    let end = sound-end r sound in
    grind (arith, nat_tests)

pub none-outside : (len i place : ℕ) (ranges : List Range) → list_all is_sound ranges ≡ true → end_from place ranges ≤ len → position_from (is_outside len) i (headers_for place ranges) ≡ None
none-outside len i place [] sound inside = refl
none-outside len i place (r ∷ ranges) sound inside =
    let parts = and_parts (is_sound r) (list_all is_sound ranges) sound in
    let next : end_from place (r ∷ ranges) ≡ end_from (after place r) ranges = refl in
    let above = end-above (after place r) ranges in
    rw (header-inside len (place + padding place) r parts.0 (omega arith)) (none-outside len (i + 1) (after place r) ranges parts.1 inside)

-- the headers lie where the ranges do
place-same : (x : Extent) (i place : ℕ) (ranges : List Range) →
    position_from (λ y. shares x (extent_of y)) i (headers_for place ranges) ≡ position_from (λ y. shares x (range_extent y)) i ranges
place-same x i place [] = refl
place-same x i place (r ∷ ranges) = rw (place-same x (i + 1) (after place r) ranges) refl

pub overlap-same : (i place : ℕ) (ranges : List Range) → overlap_from extent_of i (headers_for place ranges) ≡ overlap_from range_extent i ranges
overlap-same i place [] = refl
overlap-same i place (r ∷ ranges) =
    rw (place-same (extent_of (header_for (place + padding place) r)) 0 (after place r) ranges, overlap-same (i + 1) (after place r) ranges) refl

held-same : (entry place : ℕ) (ranges : List Range) →
    list_any (λ x. holds_entry entry (extent_of x)) (headers_for place ranges) ≡ list_any (λ x. holds_entry entry (range_extent x)) ranges
held-same entry place [] = refl
held-same entry place (r ∷ ranges) = rw ((rights r.read r.write r.execute).3, held-same entry (after place r) ranges) refl

pub entry-same : (entry place : ℕ) (ranges : List Range) → can_be_entry extent_of entry (headers_for place ranges) ≡ can_be_entry range_extent entry ranges
entry-same entry place ranges = ap (λ held. (entry % 4 == 0) && held) (held-same entry place ranges)
