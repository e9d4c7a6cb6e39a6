-- What a text comes to: its first fault, or its program.
use Rattle.std.proofs.Common.{◌≡◌, ℕ, ◌+◌, ◌%◌, ◌<◌, ◌≤◌, ◌^◌, ◌&&◌, ◌==◌, true, false, nat_lt, nat_le, is_none, List, [], ◌∷◌, length, Option, Some, None, Ok, Err, refl, sym, ap, ◌∙◌, arith}
use Rattle.std.specs.List.{list_all}
use Rattle.std.proofs.lemmas.Bool.{and_from}
use Rattle.std.proofs.lemmas.Bool.Decides.{nat_tests}
use Rattle.nv_bytes.specs.Lines.{lines}
use Rattle.nv_bytes.specs.Names.{defined}
use Rattle.nv_elf.specs.Elf.{Range, Executable, range_extent, shares, overlap_from, holds_entry, can_be_entry}
use Rattle.nv_elf.specs.Written.{is_program, is_sound, range_bytes}
use Rattle.nv_asm.specs.declared.fault.AsmCause.{AsmCause}
use Rattle.nv_asm.specs.declared.fault.AsmCause.TheVariants as cause
use Rattle.nv_asm.specs.declared.fault.AsmFault.{AsmFault}
use Rattle.nv_asm.specs.declared.fault.AsmFault.TheVariants as fault
use Rattle.nv_asm.specs.declared.place.Label.{Label}
use Rattle.nv_asm.specs.declared.place.Section.TheVariants as section
use Rattle.nv_asm.specs.Places.{Placed, placed, nothing_reached}
use Rattle.nv_asm.specs.Assembled.{Whole, whole_of, first_cause, meaning, meaning_by, laid_program, text_base, data_base, text_range, data_ranges, section_bytes, assembled}
use Rattle.nv_asm.specs.inner.Known.{known}
use Rattle.nv_asm.specs.inner.Programs.{fault_found, IsLaidText, IsEntryAt}

-- ---- what the first pass knows

abbrev placed_text : List ℕ → List Placed
placed_text text = placed 0 nothing_reached (lines text)

-- the first pass has found every label and the text section's length
pub record IsKnown (names : List (List ℕ × Label)) (text_len : ℕ) (text : List ℕ) : Type 0 where
  pub find : (name : List ℕ) → defined names name ≡ (whole_of (placed_text text)).find name
  pub len : text_len ≡ (whole_of (placed_text text)).text_len

abbrev whole : (List ℕ → Option Label) → ℕ → Whole
whole find text_len = record { find = find; text_len = text_len }

known-whole : (names : List (List ℕ × Label)) (text_len : ℕ) (text : List ℕ) → IsKnown names text_len text → known names text_len ≡ whole_of (placed_text text)
known-whole names text_len text h =
    let w : Whole = whole_of (placed_text text) in
    let same : defined names ≡ w.find = (λ i name. h.find name i) in
    ap (λ find. whole find text_len) same ∙ ap (λ n. whole w.find n) h.len

assembled-known : (names : List (List ℕ × Label)) (text_len : ℕ) (text : List ℕ) → IsKnown names text_len text
    → assembled text ≡ meaning_by (known names text_len) (placed_text text) (first_cause (known names text_len) (placed_text text))
unfolding assembled meaning
assembled-known names text_len text h = ap (λ w. meaning w (placed_text text)) (sym (known-whole names text_len text h))

-- ---- a text with a fault

by-fault : (w : Whole) (ps : List Placed) (found : Option (ℕ × AsmCause)) (f : AsmFault) → fault_found found ≡ Some f → meaning_by w ps found ≡ Err f
by-fault w ps (Some x) f e = cc
by-fault w ps None f e = cc

pub assembled-fault : (names : List (List ℕ × Label)) (text_len : ℕ) (text : List ℕ) (f : AsmFault) → IsKnown names text_len text
    → fault_found (first_cause (known names text_len) (placed_text text)) ≡ Some f → assembled text ≡ Err f
assembled-fault names text_len text f h e =
    assembled-known names text_len text h ∙ by-fault (known names text_len) (placed_text text) (first_cause (known names text_len) (placed_text text)) f e

-- ---- a text too short for an instruction

by-short : (w : Whole) (ps : List Placed) (found : Option (ℕ × AsmCause)) → found ≡ None → w.text_len < 4 → meaning_by w ps found ≡ Err (fault.Line 1 cause.Range)
by-short w ps (Some x) e h = cc
by-short w ps None e h = let is : nat_lt w.text_len 4 ≡ true = grind (arith, nat_tests) in rw is refl

pub assembled-short : (names : List (List ℕ × Label)) (text_len : ℕ) (text : List ℕ) → IsKnown names text_len text
    → first_cause (known names text_len) (placed_text text) ≡ None → text_len < 4 → assembled text ≡ Err (fault.Line 1 cause.Range)
assembled-short names text_len text h e short =
    assembled-known names text_len text h ∙ by-short (known names text_len) (placed_text text) (first_cause (known names text_len) (placed_text text)) e short

-- ---- a program

abbrev pub image : ℕ → ℕ → List ℕ → List ℕ → Executable
image text_len entry text contents = record { entry = entry; ranges = text_range text ∷ data_ranges text_len contents }

by-program : (w : Whole) (ps : List Placed) (found : Option (ℕ × AsmCause)) → found ≡ None → 4 ≤ w.text_len → meaning_by w ps found ≡ Ok (laid_program w ps)
by-program w ps (Some x) e h = cc
by-program w ps None e h = let is : nat_lt w.text_len 4 ≡ false = grind (arith, nat_tests) in rw is refl

program-image : (w : Whole) (ps : List Placed) (text contents : List ℕ) (entry : ℕ) → IsLaidText w ps text contents entry → laid_program w ps ≡ image w.text_len entry text contents
program-image w ps text contents entry h =
    ap (λ e. image w.text_len e (section_bytes w section.Text ps) (section_bytes w section.Data ps)) h.entry_is
    ∙ ap (λ t. image w.text_len entry t (section_bytes w section.Data ps)) h.text_bytes
    ∙ ap (λ d. image w.text_len entry text d) h.data_bytes

pub assembled-program : (names : List (List ℕ × Label)) (text_len : ℕ) (text code contents : List ℕ) (entry : ℕ) → IsKnown names text_len text
    → IsLaidText (known names text_len) (placed_text text) code contents entry → 4 ≤ text_len → assembled text ≡ Ok (image text_len entry code contents)
assembled-program names text_len text code contents entry h laid long =
    assembled-known names text_len text h
    ∙ by-program (known names text_len) (placed_text text) (first_cause (known names text_len) (placed_text text)) laid.faultless long
    ∙ ap Ok (program-image (known names text_len) (placed_text text) code contents entry laid)

-- ---- what a file can hold

base-up : (n : ℕ) → text_base + n ≤ data_base n
base-up n = omega arith

base-near : (n : ℕ) → data_base n < text_base + n + 4096
base-near n = omega arith

range-sound : (address size n : ℕ) → 0 < size → n ≤ size → address + size < 2 ^ 32 → (nat_lt 0 size && (nat_le n size && nat_lt (address + size) (2 ^ 32))) ≡ true
range-sound address size n some within ends = grind (arith, nat_tests)

entry-first : (entry : ℕ) (r : Range) (rs : List Range) → (entry % 4 == 0) ≡ true → holds_entry entry (range_extent r) ≡ true → can_be_entry range_extent entry (r ∷ rs) ≡ true
entry-first entry r rs aligned held = rw (aligned, held) refl

entry-held : (n entry : ℕ) (text : List ℕ) (rs : List Range) → length text ≡ n → 4 ≤ n → IsEntryAt n entry → can_be_entry range_extent entry (text_range text ∷ rs) ≡ true
entry-held n entry text rs long some h =
    let least : text_base ≤ entry = h.least in
    let most : entry + 4 ≤ text_base + length text = omega arith in
    let zero : entry % 4 ≡ 0 = h.aligned in
    let aligned : (entry % 4 == 0) ≡ true = grind (arith, nat_tests) in
    let begins : nat_le text_base entry ≡ true = grind (arith, nat_tests) in
    let end : nat_le (entry + 4) (text_base + length text) ≡ true = grind (arith, nat_tests) in
    entry-first entry (text_range text) rs aligned (and_from (nat_le text_base entry) (nat_le (entry + 4) (text_base + length text)) begins end)

apart-two : (r s : Range) → shares (range_extent r) (range_extent s) ≡ false → is_none (overlap_from range_extent 0 (r ∷ s ∷ [])) ≡ true
apart-two r s e = rw e refl

comes-after : (a n d m : ℕ) → a + n ≤ d → (nat_lt a (d + m) && nat_lt d (a + n)) ≡ false
comes-after a n d m h = grind (arith, nat_tests)

pub image-program : (n entry : ℕ) (text contents : List ℕ) → length text ≡ n → 4 ≤ n → length text + length contents ≤ 1048576 → IsEntryAt n entry
    → is_program (image n entry text contents) ≡ true
unfolding is_program
image-program n entry text [] long some short h =
    let r : Range = text_range text in
    let sound : is_sound r ≡ true = range-sound text_base (length text) (length text) (omega arith) (omega arith) (omega arith) in
    and_from (list_all is_sound (r ∷ [])) _ (and_from (is_sound r) true sound refl) (entry-held n entry text [] long some h)
image-program n entry text (b ∷ bs) long some short h =
    let r : Range = text_range text in
    let m : ℕ = length (b ∷ bs) in
    let d : ℕ = data_base n in
    let s : Range = record { address = d; size = m; read = true; write = true; execute = false; bytes = b ∷ bs } in
    let up : text_base + n ≤ d = base-up n in
    let near : d < text_base + n + 4096 = base-near n in
    let sound : is_sound r ≡ true = range-sound text_base (length text) (length text) (omega arith) (omega arith) (omega arith) in
    let sound-2 : is_sound s ≡ true = range-sound d m m (omega arith) (omega arith) (omega arith) in
    let apart : is_none (overlap_from range_extent 0 (r ∷ s ∷ [])) ≡ true = apart-two r s (comes-after text_base (length text) d m (omega arith)) in
    and_from (list_all is_sound (r ∷ s ∷ [])) _ (and_from (is_sound r) _ sound (and_from (is_sound s) true sound-2 refl))
    (and_from (is_none (overlap_from range_extent 0 (r ∷ s ∷ []))) _ apart (entry-held n entry text (s ∷ []) long some h))

pub image-small : (n entry : ℕ) (text contents : List ℕ) → length text + length contents ≤ 1048576 → range_bytes (image n entry text contents).ranges ≤ 1048576
image-small n entry text [] short = omega arith
image-small n entry text (b ∷ bs) short = omega arith
