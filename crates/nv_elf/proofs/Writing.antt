-- The loops of the writer.
use Rattle.std.proofs.Common.{◌≡◌, ℕ, ◌+◌, ◌*◌, ◌<◌, ◌≤◌, List, [], ◌∷◌, ◌++◌, length, get_or, drop, map, sym, ap, ◌∙◌, arith, append_assoc, length-append}
use Rattle.std.proofs.lemmas.List.{at_drop_more}
use Rattle.nv_elf.specs.declared.program.Segment.{Segment}
use Rattle.nv_elf.specs.Elf.{Executable, segment_range}
use Rattle.nv_elf.specs.Written.{file_header, program_header, padding, table_from, contents_from, contents_at, end_from, elf_bytes}
use Rattle.nv_elf.proofs.Tables.{after, end-above, length-table_from}
use Rattle.nv_elf.proofs.ReadBack.{length-file_header}

pub table-at : (place : ℕ) (segments : List Segment) (i : ℕ) (s : Segment) → i < length segments → s ≡ get_or segments i s →
    table_from place (map segment_range (drop i segments)) ≡ program_header (place + padding place) (segment_range s) ++ table_from (after place (segment_range s)) (map segment_range (drop (i + 1) segments))
table-at place segments i s inside is =
    at_drop_more (λ xs. table_from place (map segment_range xs)) segments i s inside ∙ ap (λ x. table_from place (map segment_range (x ∷ drop (i + 1) segments))) (sym is)

pub end-at : (place : ℕ) (segments : List Segment) (i : ℕ) (s : Segment) → i < length segments → s ≡ get_or segments i s →
    end_from place (map segment_range (drop i segments)) ≡ end_from (after place (segment_range s)) (map segment_range (drop (i + 1) segments))
end-at place segments i s inside is =
    at_drop_more (λ xs. end_from place (map segment_range xs)) segments i s inside ∙ ap (λ x. end_from place (map segment_range (x ∷ drop (i + 1) segments))) (sym is)

-- the bytes of the next segment end at or below the end
pub after-below : (place : ℕ) (segments : List Segment) (i : ℕ) (s : Segment) (end : ℕ) → i < length segments → s ≡ get_or segments i s →
    end_from place (map segment_range (drop i segments)) ≡ end → after place (segment_range s) ≤ end
after-below place segments i s end inside is e =
    let above = end-above (after place (segment_range s)) (map segment_range (drop (i + 1) segments)) in
    let same = sym (end-at place segments i s inside is) ∙ e in
    omega (arith, above, same)

-- what the pushes leave is the file
pub file-pushed : (p : Executable) →
    let before : List ℕ = file_header p.entry (length p.ranges) ++ table_from (contents_at (length p.ranges)) p.ranges in
    before ++ contents_from (length before) p.ranges ≡ elf_bytes p
unfolding elf_bytes
file-pushed p =
    let header : List ℕ = file_header p.entry (length p.ranges) in
    let table : List ℕ = table_from (contents_at (length p.ranges)) p.ranges in
    let place : length (header ++ table) ≡ contents_at (length p.ranges) =
    omega (arith, length-append header table, length-file_header p.entry (length p.ranges), length-table_from (contents_at (length p.ranges)) p.ranges) in
    ap (λ n. (header ++ table) ++ contents_from n p.ranges) place ∙ append_assoc header table (contents_from (contents_at (length p.ranges)) p.ranges)
