-- Every program that a file holds meets the condition of the writer.
use Rattle.std.proofs.Common.{◌≡◌, ℕ, ◌+◌, ◌^◌, ◌<◌, ◌≤◌, Bool, true, false, not, cond, ◌==◌, ◌&&◌, nat_lt, nat_le, List, [], ◌∷◌, Option, Some, None, option_map, is_none, length, take, drop, map, filter, sym, ap, refl, ◌∙◌, arith, length-take, subst, ◌%◌}
use Rattle.std.specs.Option.{option_or}
use Rattle.std.specs.List.{list_all, list_any, position_from}
use Rattle.std.proofs.lemmas.Bool.{and_parts, and_from}
use Rattle.std.proofs.lemmas.Bool.Decides.{nat_tests}
use Rattle.std.proofs.lemmas.List.{length-map}
use Rattle.nv_elf.specs.declared.header.ProgramHeader.{ProgramHeader}
use Rattle.nv_elf.specs.declared.program.ElfFault.{ElfFault}
use Rattle.nv_elf.specs.declared.program.ElfFault.TheVariants.{Entry}
use Rattle.nv_elf.specs.Elf.{Range, Executable, Extent, elf_of, ElfOf, Refused, Accepted, elf_unless, elf_fault, executable_in, file_fault, table_fault, loadables_fault, overlap_fault, headers_of, loadables_of, entry_at, is_loadable, is_interpreted, is_outside, range_in, extent_of, range_extent, shares, overlap_from, holds_entry, can_be_entry}
use Rattle.nv_elf.specs.Written.{is_program, is_sound}

none-first : {A : Type 0} (x y : Option A) → option_or x y ≡ None → (x ≡ None) × (y ≡ None)
none-first None y e = (refl, e)
none-first (Some x) y e = cc

none-mapped : {A B : Type 0} (f : A → B) (x : Option A) → option_map f x ≡ None → x ≡ None
none-mapped f None e = refl
none-mapped f (Some x) e = cc

answer-accepted : (fault : Option ElfFault) (image p : Executable) → elf_unless fault image ≡ Accepted p → (fault ≡ None) × (image ≡ p)
answer-accepted None image p e = (refl, cc)
answer-accepted (Some fault) image p e = cc

-- a filtered list passes
loadable-all : (headers : List ProgramHeader) → list_all is_loadable (filter is_loadable headers) ≡ true
loadable-all [] = refl
loadable-all (h ∷ headers) = step (is_loadable h) refl (loadable-all headers) where
  step : (passes : Bool) → is_loadable h ≡ passes → list_all is_loadable (filter is_loadable headers) ≡ true
      → list_all is_loadable (cond passes (h ∷ filter is_loadable headers) (filter is_loadable headers)) ≡ true
  step true e rest = and_from (is_loadable h) (list_all is_loadable (filter is_loadable headers)) e rest
  step false e rest = rest

range-sound : (b : List ℕ) (h : ProgramHeader) → is_loadable h ≡ true → is_outside (length b) h ≡ false → is_sound (range_in b h) ≡ true
unfolding is_outside
range-sound b h loadable inside =
    let some = (and_parts (h.kind == 1) (nat_lt 0 h.memory_size) loadable).1 in
    let taken = length-take h.file_size (drop h.offset b) in
    let fits : nat_le (length (take h.file_size (drop h.offset b))) h.memory_size ≡ true = grind (arith, nat_tests) in
    let ends : nat_lt (h.address + h.memory_size) (2 ^ 32) ≡ true = grind (arith, nat_tests) in
    and_from (nat_lt 0 h.memory_size) _ some (and_from (nat_le (length (take h.file_size (drop h.offset b))) h.memory_size) (nat_lt (h.address + h.memory_size) (2 ^ 32)) fits ends)

pub ranges-sound : (b : List ℕ) (i : ℕ) (headers : List ProgramHeader) → list_all is_loadable headers ≡ true → position_from (is_outside (length b)) i headers ≡ None → list_all is_sound (map (range_in b) headers) ≡ true
ranges-sound b i [] loadable inside = refl
ranges-sound b i (h ∷ headers) loadable inside =
    let parts = and_parts (is_loadable h) (list_all is_loadable headers) loadable in
    step (is_outside (length b) h) refl inside parts.0 (ranges-sound b (i + 1) headers parts.1) where
      step : (outside : Bool) → is_outside (length b) h ≡ outside → cond outside (Some i) (position_from (is_outside (length b)) (i + 1) headers) ≡ None → is_loadable h ≡ true
          → (position_from (is_outside (length b)) (i + 1) headers ≡ None → list_all is_sound (map (range_in b) headers) ≡ true) → list_all is_sound (map (range_in b) (h ∷ headers)) ≡ true
      step true e none loads rest = cc
      step false e none loads rest = and_from _ _ (range-sound b h loads e) (rest none)

place-kept : (b : List ℕ) (x : Extent) (i : ℕ) (headers : List ProgramHeader) →
    position_from (λ y. shares x (range_extent y)) i (map (range_in b) headers) ≡ position_from (λ y. shares x (extent_of y)) i headers
place-kept b x i [] = refl
place-kept b x i (h ∷ headers) = rw (place-kept b x (i + 1) headers) refl

overlap-kept : (b : List ℕ) (i : ℕ) (headers : List ProgramHeader) → overlap_from range_extent i (map (range_in b) headers) ≡ overlap_from extent_of i headers
overlap-kept b i [] = refl
overlap-kept b i (h ∷ headers) = rw (place-kept b (extent_of h) 0 headers, overlap-kept b (i + 1) headers) refl

held-kept : (b : List ℕ) (entry : ℕ) (headers : List ProgramHeader) →
    list_any (λ x. holds_entry entry (range_extent x)) (map (range_in b) headers) ≡ list_any (λ x. holds_entry entry (extent_of x)) headers
held-kept b entry [] = refl
held-kept b entry (h ∷ headers) = rw (held-kept b entry headers) refl

few-kept : (headers loadables : List ProgramHeader) → table_fault headers loadables ≡ None → length loadables ≤ 16
unfolding table_fault
few-kept headers loadables e = grind (arith, nat_tests)

loadables-kept : (len entry : ℕ) (headers : List ProgramHeader) → loadables_fault len entry headers ≡ None →
    (position_from (is_outside len) 0 headers ≡ None) × (overlap_from extent_of 0 headers ≡ None) × (can_be_entry extent_of entry headers ≡ true)
unfolding loadables_fault
loadables-kept len entry headers e =
    let outside = none-first (option_map _ (position_from (is_outside len) 0 headers)) _ e in
    let apart = none-first (overlap_fault (overlap_from extent_of 0 headers)) _ outside.1 in
    (none-mapped _ _ outside.0, none-mapped _ _ apart.0, held (can_be_entry extent_of entry headers) Entry apart.1) where
      held : (x : Bool) (fault : ElfFault) → cond x None (Some fault) ≡ None → x ≡ true
      held true fault h = refl
      held false fault h = cc

image-program : (b : List ℕ) → elf_fault b ≡ None → is_program (executable_in b) ≡ true
unfolding is_program
image-program b none =
    let file = none-first (file_fault b) _ none in
    let table = none-first (table_fault (headers_of b) (loadables_of b)) _ file.1 in
    let few = few-kept (headers_of b) (loadables_of b) table.0 in
    let kept = loadables-kept (length b) (entry_at b) (loadables_of b) table.1 in
    let ranges : List Range = map (range_in b) (loadables_of b) in
    let same = length-map (loadables_of b) (range_in b) in
    let most : nat_le (length ranges) 16 ≡ true = grind (arith, nat_tests) in
    let sound : list_all is_sound ranges ≡ true = ranges-sound b 0 (loadables_of b) (loadable-all (headers_of b)) kept.0 in
    let apart : is_none (overlap_from range_extent 0 ranges) ≡ true = ap is_none (overlap-kept b 0 (loadables_of b) ∙ kept.1) in
    let entry : can_be_entry range_extent (entry_at b) ranges ≡ true = ap (λ held. (entry_at b % 4 == 0) && held) (held-kept b (entry_at b) (loadables_of b)) ∙ kept.2 in
    and_from (nat_le (length ranges) 16) _ most (and_from (list_all is_sound ranges) _ sound (and_from (is_none (overlap_from range_extent 0 ranges)) _ apart entry))

pub is_program-accepted : (b : List ℕ) (p : Executable) → elf_of b ≡ Accepted p → is_program p ≡ true
unfolding elf_of
is_program-accepted b p e =
    let given = answer-accepted (elf_fault b) (executable_in b) p e in
    subst (λ (q : Executable). is_program q ≡ true) given.1 (image-program b given.0)
