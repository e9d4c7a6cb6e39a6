-- Instructions that are kept, as the bytes and the regions change.
use Rattle.std.proofs.Common.{◌≡◌, ◌≢◌, Bool, true, false, ℕ, suc, zero, ◌+◌, ◌-◌, ◌*◌, ◌/◌, ◌%◌, ◌^◌, ◌<◌, ◌≤◌, ◌⊎◌, List, [], ◌∷◌, ◌++◌, take, drop, length, get_or, set, replicate, min, max, Option, Some, None, inl, inr, refl, sym, ap, ◌∙◌, subst, arith, length-set}
use Rattle.std.specs.Prelude.{if◌then◌else◌, IfSome, Result, Ok, Err}
use Rattle.std.proofs.lemmas.List.{get_or-set_other, get_or-set_same, get_or-replicate}
use Rattle.std.proofs.lemmas.Bool.{cases_eq, cases_lt}
use Rattle.nv_isa.specs.declared.op.Insn.{Insn}
use Rattle.nv_isa.specs.declared.op.Op.{Op}
use Rattle.nv_isa.specs.declared.op.Op.TheVariants.{Ebreak}
use Rattle.nv_isa.specs.Spelling.{HasSmallRegisters}
use Rattle.nv_isa.specs.Table.{decoded}
use Rattle.nv_memory.specs.declared.region.Region.{Region}
use Rattle.nv_memory.specs.declared.region.Right.TheVariants.{Execute, Write}
use Rattle.nv_memory.specs.Bytes.{bytes_at, little, put}
use Rattle.nv_memory.specs.Region.{AreRegions, holds, end_of, set_end}
use Rattle.nv_memory.specs.Code.{code_start, code_address}
use Rattle.nv_memory.specs.Insns.{insn_at}
use Rattle.nv_memory.specs.inner.Decoded.{blank, is_kept, shown, kept_at, AreSmall, AreDecoded, ArePlaces, IsInsn, IsApart, Remain, kept, place_of}
use Rattle.nv_memory.specs.declared.rights.Part.{Part}
use Rattle.nv_memory.specs.inner.Rights.{AreParts, Looked, may_write}
use Rattle.nv_memory.proofs.Parts.{write_apart, parts_moved}
use Rattle.nv_memory.proofs.Apart.{put_apart, held_still, cut_apart, length_cut}
use Rattle.nv_memory.proofs.BytesLaws.{length_put}
use Rattle.std.proofs.lemmas.Grind.{common_steps}
use Rattle.nv_memory.specs.Image.{Image, cut, value_at, stored}
use Rattle.nv_memory.specs.declared.region.Access.{Access}
use Rattle.nv_memory.specs.declared.region.Width.TheVariants.{Four}

abbrev pub Kept : Type 0
Kept = List Insn

-- what is shown is what stands there
shown_is : (x i : Insn) → shown x ≡ Some i → x ≡ i
shown_is x i = go (is_kept x.op)
  where
    go : (b : Bool) → (if b then Some x else None) ≡ Some i → x ≡ i
    go true e = cc
    go false e = cc

same_shown : (x y : Insn) → x ≡ y → shown x ≡ shown y
same_shown x y e = ap shown e

cleared_here : (xs : Kept) (p : ℕ) → kept_at (set xs p blank) p ≡ None
cleared_here [] p = refl
cleared_here (x ∷ xs) zero = refl
cleared_here (x ∷ xs) (suc p) = cleared_here xs p

other_kept : (xs : Kept) (p k : ℕ) (x : Insn) → (k ≡ p → ⊥) → kept_at (set xs p x) k ≡ kept_at xs k
other_kept xs p k x other = same_shown (get_or (set xs p x) k blank) (get_or xs k blank) (get_or-set_other xs p k x blank other)

inside : (insns : Kept) (k : ℕ) (i : Insn) → kept_at insns k ≡ Some i → k < length insns
inside [] k i e = absurd (cc e)
inside (x ∷ xs) zero i e = omega arith
inside (x ∷ xs) (suc k) i e = omega (arith, inside xs k i e)

small_blank : HasSmallRegisters blank
small_blank = record { rd = omega arith; rs1 = omega arith; rs2 = omega arith }

small_set : (xs : Kept) (p : ℕ) (x : Insn) (k : ℕ) → HasSmallRegisters x → AreSmall xs → HasSmallRegisters (get_or (set xs p x) k blank)
small_set [] p x k s a = a k
small_set (y ∷ ys) zero x zero s a = s
small_set (y ∷ ys) zero x (suc k) s a = a (suc k)
small_set (y ∷ ys) (suc p) x zero s a = a 0
small_set (y ∷ ys) (suc p) x (suc k) s a = small_set ys p x k s (λ j. a (suc j))

small_blanks : (n k : ℕ) → HasSmallRegisters (get_or (replicate n blank) k blank)
small_blanks zero k = small_blank
small_blanks (suc n) zero = small_blank
small_blanks (suc n) (suc k) = small_blanks n k

-- before any place is cleared
pub cleared_none : (before : Kept) (first : ℕ) → ArePlaces first first before before
cleared_none before first = record { length = refl; small = λ a. a; are = λ k i e. (e, cases_lt k first) }

-- one more place is cleared
pub cleared_more : (before after : Kept) (first place : ℕ) → ArePlaces first place before after → ArePlaces first (place + 1) before (set after place blank)
cleared_more before after first place h = record {
  length = length-set after place blank ∙ h.length;
  small = λ a k. small_set after place blank k small_blank (h.small a);
  are = λ k i e. elim (cases_eq k place) [
    | inl same ↦ absurd (nothing k i same e)
    | inr other ↦ ((there k i other e).0, past k other (there k i other e).1)
  ];
}
  where
    nothing : (k : ℕ) (i : Insn) → k ≡ place → kept_at (set after place blank) k ≡ Some i → ⊥
    nothing k i same e = cc (same, e, cleared_here after place)

    there : (k : ℕ) (i : Insn) → (k ≡ place → ⊥) → kept_at (set after place blank) k ≡ Some i → (kept_at before k ≡ Some i) × ((k < first) ⊎ (place ≤ k))
    there k i other e = h.are k i (sym (other_kept after place k blank other) ∙ e)

    past : (k : ℕ) → (k ≡ place → ⊥) → (k < first) ⊎ (place ≤ k) → (k < first) ⊎ (place + 1 ≤ k)
    past k other h = elim h [ inl below ↦ inl below | inr above ↦ inr (omega (arith, above, other)) ]

-- all places are cleared
pub cleared_all : (before after : Kept) (first last place : ℕ) → min last (length before) ≤ place → ArePlaces first place before after → ArePlaces first last before after
cleared_all before after first last place far h = record {
  length = h.length;
  small = h.small;
  are = λ k i e. ((h.are k i e).0, past k i (h.are k i e).0 (h.are k i e).1);
}
  where
    past : (k : ℕ) (i : Insn) → kept_at before k ≡ Some i → (k < first) ⊎ (place ≤ k) → (k < first) ⊎ (last ≤ k)
    past k i e h = elim h [
      | inl below ↦ inl below
      | inr above ↦ elim (cases_lt k last) [
        | inl within ↦ absurd (omega (arith, far, above, within, inside before k i e))
        | inr beyond ↦ inr beyond
      ]
    ]

-- places that are cleared are those of the words that meet a range
pub range_cleared : (start from to first last : ℕ) (before after : Kept) → first ≡ (from - start) / 4 → last ≡ (to - start) / 4 + min 1 ((to - start) % 4) → ArePlaces first last before after → Remain start from to before after
range_cleared start from to first last before after e f h = record { small = h.small; are = λ k i x. ((h.are k i x).0, apart k (h.are k i x).1) }
  where
    apart : (k : ℕ) → (k < first) ⊎ (last ≤ k) → IsApart (start + 4 * k) from to
    apart k h = elim h [ inl below ↦ inl (omega (arith, below, e)) | inr above ↦ inr (omega (arith, above, f)) ]

place_is : (start a n k : ℕ) → start % 4 ≡ 0 → start + 4 * n ≤ 2 ^ 32 → a % 4 ≡ 0 → a < 2 ^ 32 → k ≡ place_of start a → k < n → start + 4 * k ≡ a
place_is start a n k s fits w small e h = omega (arith, s, fits, w, small, e, h)

-- what is kept for an address is its instruction
pub known_at : (start : ℕ) (insns : Kept) (bytes : List ℕ) (regions : List Region) (a : ℕ) (i : Insn) → AreDecoded start insns bytes regions → a % 4 ≡ 0 → a < 2 ^ 32 → kept start insns a ≡ Some i → IsInsn bytes regions a i
known_at start insns bytes regions a i ok w small e =
    let k = place_of start a in
    subst (λ (p : ℕ). IsInsn bytes regions p i) (place_is start a (length insns) (place_of start a) ok.aligned ok.fits w small refl (inside insns (place_of start a) i e)) (ok.are (place_of start a) i e)

-- nothing is kept
pub none_kept : (start : ℕ) (insns : Kept) (bytes : List ℕ) (regions : List Region) → start ≡ code_start regions → start % 4 ≡ 0 → start + 4 * length insns ≤ 2 ^ 32 → insns ≡ replicate (length insns) blank → AreDecoded start insns bytes regions
none_kept start insns bytes regions b s fits e = record {
  begins = b;
  aligned = s;
  fits = fits;
  small = rw e (small_blanks (length insns));
  are = λ k i x. absurd (nothing k i x);
}
  where
    nothing : (k : ℕ) (i : Insn) → kept_at insns k ≡ Some i → ⊥
    nothing k i x = cc (x, ap (λ (xs : Kept). kept_at xs k) e, same_shown (get_or (replicate (length insns) blank) k blank) blank (get_or-replicate (length insns) k blank blank (inside insns k i x)))

-- one more instruction is kept
pub one_kept : (start : ℕ) (insns : Kept) (bytes : List ℕ) (regions : List Region) (a : ℕ) (i : Insn) → AreDecoded start insns bytes regions → a % 4 ≡ 0 → a < 2 ^ 32 → IsInsn bytes regions a i → AreDecoded start (set insns (place_of start a) i) bytes regions
one_kept start insns bytes regions a i ok w small is = record {
  begins = ok.begins;
  aligned = ok.aligned;
  fits = rw (length-set insns (place_of start a) i) ok.fits;
  small = λ k. small_set insns (place_of start a) i k is.registers ok.small;
  are = λ k j e. elim (cases_eq k (place_of start a)) [
    | inl same ↦ here k j same e
    | inr other ↦ ok.are k j (sym (other_kept insns (place_of start a) k i other) ∙ e)
  ];
}
  where
    here : (k : ℕ) (j : Insn) → k ≡ place_of start a → kept_at (set insns (place_of start a) i) k ≡ Some j → IsInsn bytes regions (start + 4 * k) j
    here k j same e =
        let within : k < length insns = omega (arith, inside (set insns (place_of start a) i) k j e, length-set insns (place_of start a) i) in
        let there : start + 4 * k ≡ a = place_is start a (length insns) k ok.aligned ok.fits w small same within in
        let stands : get_or (set insns (place_of start a) i) k blank ≡ i = ap (λ (p : ℕ). get_or (set insns p i) k blank) (sym same) ∙ get_or-set_same insns k i blank within in
        let ij : i ≡ j = sym stands ∙ shown_is (get_or (set insns (place_of start a) i) k blank) j e in
        subst (λ (p : ℕ). IsInsn bytes regions p j) (sym there) (subst (λ (x : Insn). IsInsn bytes regions a x) ij is)

-- what was fetched and decoded
pub read_is : (bytes : List ℕ) (regions : List Region) (a w : ℕ) (i : Insn) → Ok w ≡ value_at (record { bytes = bytes; regions = regions }) a Four Execute → Some i ≡ decoded w → HasSmallRegisters i → IsInsn bytes regions a i
read_is bytes regions a w i e d small = go (holds regions a 4 Execute) refl e
  where
    go : (b : Bool) → holds regions a 4 Execute ≡ b → ◌≡◌ {A = Result ℕ Access} (Ok w) (if b then Ok (little (bytes_at bytes a 4)) else Err (record { 0 = a })) → IsInsn bytes regions a i
    go true held e = record { held = held; spelled = (cc (e, d)); registers = small }
    go false held e = absurd (cc e)

-- what a write leaves
pub kept_still : (start a to : ℕ) (before after : Kept) (bytes from : List ℕ) (regions : List Region) → AreDecoded start before bytes regions → length after ≡ length before → Remain start a to before after → a + length from ≤ to → AreDecoded start after (put bytes a from) regions
kept_still start a to before after bytes from regions ok same left far = record {
  begins = ok.begins;
  aligned = ok.aligned;
  fits = rw same ok.fits;
  small = left.small ok.small;
  are = λ k i e. one k i (left.are k i e);
}
  where
    one : (k : ℕ) (i : Insn) → (kept_at before k ≡ Some i) × IsApart (start + 4 * k) a to → IsInsn (put bytes a from) regions (start + 4 * k) i
    one k i h =
        let is : IsInsn bytes regions (start + 4 * k) i = ok.are k i h.0 in
        let apart : (start + 4 * k + 4 ≤ a) ⊎ (a + length from ≤ start + 4 * k) = elim h.1 [ inl before ↦ inl before | inr after ↦ inr (omega (arith, after, far)) ] in
        record { held = is.held; spelled = ap (λ (bs : List ℕ). decoded (little bs)) (put_apart bytes a from (start + 4 * k) 4 apart) ∙ is.spelled; registers = is.registers }

code_as_moved : (rs : List Region) (k end : ℕ) → code_start (set_end rs k end) ≡ code_start rs
code_as_moved [] k end = refl
code_as_moved (r ∷ rs) zero end = refl
code_as_moved (r ∷ rs) (suc k) end = rw (code_as_moved rs k end) refl

-- what the move of a region's end leaves
pub kept_as_moved : (start k end : ℕ) (before after : Kept) (bytes : List ℕ) (regions : List Region) → AreDecoded start before bytes regions → length after ≡ length before → Remain start (min (end_of regions k) end) (max (end_of regions k) end) before after → AreDecoded start after (cut bytes (end_of regions k) end) (set_end regions k end)
kept_as_moved start k end before after bytes regions ok same left = record {
  begins = ok.begins ∙ sym (code_as_moved regions k end);
  aligned = ok.aligned;
  fits = rw same ok.fits;
  small = left.small ok.small;
  are = λ n i e. one n i (left.are n i e);
}
  where
    one : (n : ℕ) (i : Insn) → (kept_at before n ≡ Some i) × IsApart (start + 4 * n) (min (end_of regions k) end) (max (end_of regions k) end) → IsInsn (cut bytes (end_of regions k) end) (set_end regions k end) (start + 4 * n) i
    one n i h =
        let is : IsInsn bytes regions (start + 4 * n) i = ok.are n i h.0 in
        let apart : (start + 4 * n + 4 ≤ end) ⊎ (end_of regions k ≤ start + 4 * n) = elim h.1 [ inl below ↦ inl (omega (arith, below)) | inr above ↦ inr (omega (arith, above)) ] in
        record { held = held_still regions k end (start + 4 * n) Execute apart is.held; spelled = ap (λ (bs : List ℕ). decoded (little bs)) (cut_apart bytes (end_of regions k) end (start + 4 * n) 4 h.1) ∙ is.spelled; registers = is.registers }

-- an instruction that is known
pub insn_is : (bytes : List ℕ) (regions : List Region) (a : ℕ) (i : Insn) → IsInsn bytes regions a i → insn_at (record { bytes = bytes; regions = regions }) a ≡ Ok (Some i)
insn_is bytes regions a i is = rw (is.held, is.spelled) refl

pub known_is : {R : Type 0} (now : R → Insn) (start : ℕ) (insns : Kept) (bytes : List ℕ) (regions : List Region) (a : ℕ) (found : Option R) → AreDecoded start insns bytes regions → a % 4 ≡ 0 → a < 2 ^ 32 → IfSome found (λ r. kept start insns a ≡ Some (now r))
    → IfSome found (λ r. insn_at (record { bytes = bytes; regions = regions }) a ≡ Ok (Some (now r)))
known_is now start insns bytes regions a None ok w small e = tt
known_is now start insns bytes regions a (Some r) ok w small e = insn_is bytes regions a (now r) (known_at start insns bytes regions a (now r) ok w small e)

pub known_small : {R : Type 0} (now : R → Insn) (start : ℕ) (insns : Kept) (bytes : List ℕ) (regions : List Region) (a : ℕ) (found : Option R) → AreDecoded start insns bytes regions → a % 4 ≡ 0 → a < 2 ^ 32 → IfSome found (λ r. kept start insns a ≡ Some (now r))
    → IfSome found (λ r. HasSmallRegisters (now r))
known_small now start insns bytes regions a None ok w small e = tt
known_small now start insns bytes regions a (Some r) ok w small e = (known_at start insns bytes regions a (now r) ok w small e).registers

-- the same at a place of the code
address_is : (start n k : ℕ) → start + 4 * n ≤ 2 ^ 32 → k < n → start + 4 * k ≡ code_address start k
address_is start n k fits h = omega (arith, fits, h)

at_place : (start : ℕ) (insns : Kept) (bytes : List ℕ) (regions : List Region) (k : ℕ) (i : Insn) → AreDecoded start insns bytes regions → kept_at insns k ≡ Some i → IsInsn bytes regions (code_address (code_start regions) k) i
at_place start insns bytes regions k i ok e =
    let there : start + 4 * k ≡ code_address (code_start regions) k = address_is start (length insns) k ok.fits (inside insns k i e) ∙ ap (λ (s : ℕ). code_address s k) ok.begins in
    subst (λ (p : ℕ). IsInsn bytes regions p i) there (ok.are k i e)

kept_other : (o : Op) → o ≢ Ebreak → is_kept o ≡ true
kept_other Ebreak n = absurd (n refl)
kept_other _ n = refl

-- what stands there is kept, unless it is an EBREAK
stands : (x i : Insn) → i ≡ x → i.op ≢ Ebreak → shown x ≡ Some i
stands x i e n = sym (same_shown i x e) ∙ rw (kept_other i.op n) refl

pub place_known : {R : Type 0} (now : R → Insn) (start : ℕ) (insns : Kept) (bytes : List ℕ) (regions : List Region) (k : ℕ) (found : Option R) → AreDecoded start insns bytes regions → IfSome found (λ r. now r ≡ get_or insns k blank)
    → IfSome found (λ r. (now r).op ≢ Ebreak → insn_at (record { bytes = bytes; regions = regions }) (code_address (code_start regions) k) ≡ Ok (Some (now r)))
place_known now start insns bytes regions k None ok e = tt
place_known now start insns bytes regions k (Some r) ok e = λ n. insn_is bytes regions (code_address (code_start regions) k) (now r) (at_place start insns bytes regions k (now r) ok (stands (get_or insns k blank) (now r) e n))

pub place_small : {R : Type 0} (now : R → Insn) (start : ℕ) (insns : Kept) (bytes : List ℕ) (regions : List Region) (k : ℕ) (found : Option R) → AreDecoded start insns bytes regions → IfSome found (λ r. now r ≡ get_or insns k blank) → IfSome found (λ r. HasSmallRegisters (now r))
place_small now start insns bytes regions k None ok e = tt
place_small now start insns bytes regions k (Some r) ok e = subst (λ (x : Insn). HasSmallRegisters x) (sym e) (ok.small k)

pub written_back : {X : Type 0} (items new : List X) (len : ℕ) → length items ≡ len → length new ≡ len → take len (new ++ drop (length new) items) ≡ new
written_back items new len e f = grind (arith, common_steps)

-- what is kept is apart from a range before the code or after it
pub remain_apart : (start a to : ℕ) (insns : Kept) → (to ≤ start) ⊎ (start + 4 * length insns ≤ a) → Remain start a to insns insns
remain_apart start a to insns h = record { small = λ a. a; are = λ k i e. (e, apart k (inside insns k i e)) }
  where
    apart : (k : ℕ) → k < length insns → IsApart (start + 4 * k) a to
    apart k within = elim h [ inl below ↦ inr (omega (arith, below)) | inr above ↦ inl (omega (arith, above, within)) ]

-- what holds of a memory
abbrev pub AreSound : ℕ → Kept → List ℕ → List Region → List Part → Type 0
AreSound start insns bytes regions parts = AreRegions (length bytes) regions × AreDecoded start insns bytes regions × AreParts regions start (start + 4 * length insns) parts

-- it holds after a write
pub sound_as_written : (start began a to len : ℕ) (before after : Kept) (items new from : List ℕ) (regions : List Region) (parts : List Part) → AreSound start before items regions parts
    → length items ≡ len → new ≡ put items a from → began ≡ start → length after ≡ length before → Remain start a to before after → a + length from ≤ to
    → AreSound began after (take len (new ++ drop (length new) items)) regions parts
sound_as_written start began a to len before after items new from regions parts ok l w s same left far =
    let long : length new ≡ len = ap length w ∙ length_put items a from ∙ l in
    let is : take len (new ++ drop (length new) items) ≡ put items a from = written_back items new len l long ∙ w in
    rw (is, s, length_put items a from, same) (ok.0, kept_still start a to before after items from regions ok.1 same left far, ok.2)

-- it holds after a write to a part that may be written
pub sound_in_part : (start a n len : ℕ) (insns : Kept) (items new from : List ℕ) (regions : List Region) (parts : List Part) → AreSound start insns items regions parts
    → may_write parts a n ≡ true → length from ≡ n → length items ≡ len → new ≡ put items a from
    → AreSound start insns (take len (new ++ drop (length new) items)) regions parts
sound_in_part start a n len insns items new from regions parts ok may f l w =
    let left : Remain start a (a + n) insns insns = remain_apart start a (a + n) insns (write_apart regions start (start + 4 * length insns) parts a n ok.2 may) in
    sound_as_written start start a (a + n) len insns insns items new from regions parts ok l w refl refl left (omega (arith, f))

-- it holds after the move of a region's end
pub sound_as_resized : (start began k end len many : ℕ) (before after : Kept) (items new : List ℕ) (regions moved : List Region) (parts looked : List Part) → AreSound start before items regions parts → AreRegions (length items) (set_end regions k end)
    → length items ≡ len → new ≡ cut items (end_of regions k) end → length regions ≡ many → length moved ≡ many → moved ≡ set_end regions k end → began ≡ start → length after ≡ length before → Remain start (min (end_of regions k) end) (max (end_of regions k) end) before after
    → length looked ≡ length parts → Looked (set_end regions k end) start (start + 4 * length before) (min (end_of regions k) end / 256) (max (end_of regions k) end / 256 + 1) parts looked
    → AreSound began after (take len (new ++ drop (length new) items)) (take many (moved ++ drop (length moved) regions)) looked
sound_as_resized start began k end len many before after items new regions moved parts looked ok are l w m mm is s same left p q =
    let long : length new ≡ len = ap length w ∙ length_cut items (end_of regions k) end ∙ l in
    let bytes_are : take len (new ++ drop (length new) items) ≡ cut items (end_of regions k) end = written_back items new len l long ∙ w in
    let regions_are : take many (moved ++ drop (length moved) regions) ≡ set_end regions k end = written_back regions moved many m mm ∙ is in
    rw (bytes_are, regions_are, s, length_cut items (end_of regions k) end, same) (are, kept_as_moved start k end before after items regions ok.1 same left, parts_moved regions start (start + 4 * length before) k end parts looked ok.2 p q)

-- what a write to a part leaves, as callers see it
pub stored_in_part : (a len : ℕ) (items new from : List ℕ) (regions : List Region) (m : Image) → record { bytes = items; regions = regions } ≡ m → length items ≡ len → new ≡ put items a from → holds regions a (length from) Write ≡ true
    → ◌≡◌ {A = Image} (record { bytes = take len (new ++ drop (length new) items); regions = regions }) (stored m a from)
stored_in_part a len items new from regions m e l w h =
    let long : length new ≡ len = ap length w ∙ length_put items a from ∙ l in
    let is : take len (new ++ drop (length new) items) ≡ put items a from = written_back items new len l long ∙ w in
    let there : stored (record { bytes = items; regions = regions }) a from ≡ record { bytes = put items a from; regions = regions } = rw h refl in
    rw is (sym there) ∙ ap (λ (x : Image). stored x a from) e
