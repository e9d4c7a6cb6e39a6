-- Parts that are looked at, and what is said of a range by them.
use Rattle.std.proofs.Common.{◌≡◌, suc, zero, false, inr, inl, List, [], ◌∷◌, true, ℕ, ◌+◌, ◌*◌, ◌/◌, ◌^◌, ◌<◌, ◌≤◌, ◌⊎◌, length, get_or, set, replicate, min, max, refl, sym, ap, ◌∙◌, subst, arith}
use Rattle.std.specs.List.{list_any}
use Rattle.std.proofs.lemmas.List.{get_or-set_other, get_or-set_same, get_or-replicate, get_or_past}
use Rattle.std.proofs.lemmas.Bool.{cases_eq, cases_lt, or_cases, or_left, or_right, and_parts}
use Rattle.std.proofs.lemmas.Bool.Decides.{nat_tests}
use Rattle.nv_memory.specs.declared.region.Region.{Region}
use Rattle.nv_memory.specs.declared.region.Right.{Right}
use Rattle.nv_memory.specs.declared.region.Right.TheVariants.{Read, Write}
use Rattle.nv_memory.specs.declared.rights.Part.{Part}
use Rattle.nv_memory.specs.Region.{covers, holds, end_of, set_end}
use Rattle.nv_memory.specs.inner.Rights.{IsOneOf, no_part, part_at, in_a_part, may_read, may_write, IsPart, AreParts, Looked}
use Rattle.nv_memory.proofs.Apart.{covered_still}

pub looked_none : (regions : List Region) (start stop first : ℕ) (before : List Part) → Looked regions start stop first first before before
looked_none regions start stop first before = λ k. inr (cases_lt k first, refl)

pub looked_more : (regions : List Region) (start stop first place : ℕ) (before after : List Part) (p : Part) → place < length after → Looked regions start stop first place before after → IsPart regions start stop place p → Looked regions start stop first (place + 1) before (set after place p)
looked_more regions start stop first place before after p within h is = λ k. elim (cases_eq k place) [
  | inl same ↦ inl (subst (λ (n : ℕ). IsPart regions start stop n (part_at (set after place p) n)) (sym same) (subst (λ (x : Part). IsPart regions start stop place x) (sym (get_or-set_same after place p no_part within)) is))
  | inr other ↦ elim (h k) [
    | inl done ↦ inl (subst (λ (x : Part). IsPart regions start stop k x) (sym (get_or-set_other after place k p no_part other)) done)
    | inr left ↦ inr (past k other left.0, get_or-set_other after place k p no_part other ∙ left.1)
  ]
]
  where
    past : (k : ℕ) → (k ≡ place → ⊥) → (k < first) ⊎ (place ≤ k) → (k < first) ⊎ (place + 1 ≤ k)
    past k other h = elim h [ inl below ↦ inl below | inr above ↦ inr (omega (arith, above, other)) ]

no_part_is : (regions : List Region) (start stop k : ℕ) (p : Part) → p ≡ no_part → IsPart regions start stop k p
no_part_is regions start stop k p e = record {
  read = λ r. absurd (cc (r, ap (λ (x : Part). x.read) e));
  write = λ r. absurd (cc (r, ap (λ (x : Part). x.write) e));
  apart = λ r. absurd (cc (r, ap (λ (x : Part). x.write) e));
}

pub looked_all : (regions : List Region) (start stop first last place : ℕ) (before after : List Part) → min last (length before) ≤ place → length after ≡ length before → Looked regions start stop first place before after → Looked regions start stop first last before after
looked_all regions start stop first last place before after far same h = λ k. elim (h k) [
  | inl done ↦ inl done
  | inr left ↦ elim left.0 [
    | inl below ↦ inr (inl below, left.1)
    | inr above ↦ elim (cases_lt k last) [
      | inl within ↦ inl (no_part_is regions start stop k (part_at after k) (get_or_past after k no_part (omega (arith, far, above, within, same))))
      | inr beyond ↦ inr (inr beyond, left.1)
    ]
  ]
]

-- a part of a range that one region covers
pub covered_part : (rs : List Region) (a n b m : ℕ) (right : Right) → a ≤ b → b + m ≤ a + n → list_any (covers a n right) rs ≡ true → list_any (covers b m right) rs ≡ true
covered_part [] a n b m right h k t = t
covered_part (r ∷ rs) a n b m right h k t = elim (or_cases (covers a n right r) (list_any (covers a n right) rs) t) [
  | inl here ↦ or_left (covers b m right r) (list_any (covers b m right) rs) (at_one here)
  | inr there ↦ or_right (covers b m right r) (list_any (covers b m right) rs) (covered_part rs a n b m right h k there)
]
  where
    at_one : covers a n right r ≡ true → covers b m right r ≡ true
    at_one here = grind (arith, nat_tests, here, h, k)

lies : (a n : ℕ) → in_a_part a n ≡ true → (a / 256 * 256 ≤ a) × (a + n ≤ a / 256 * 256 + 256)
lies a n h = grind (arith, nat_tests, h)

held : (regions : List Region) (a n : ℕ) (right : Right) → in_a_part a n ≡ true → list_any (covers (a / 256 * 256) 256 right) regions ≡ true → holds regions a n right ≡ true
held regions a n right h t = or_right _ (list_any (covers a n right) regions) (covered_part regions (a / 256 * 256) 256 a n right (lies a n h).0 (lies a n h).1 t)

-- what is read by a part's right
pub read_held : (regions : List Region) (start stop : ℕ) (parts : List Part) (a n : ℕ) → AreParts regions start stop parts → may_read parts a n ≡ true → holds regions a n Read ≡ true
read_held regions start stop parts a n ok h =
    let both = and_parts (in_a_part a n) (part_at parts (a / 256)).read h in
    held regions a n Read both.0 ((ok.are (a / 256)).read both.1)

-- what is written by a part's right
pub write_held : (regions : List Region) (start stop : ℕ) (parts : List Part) (a n : ℕ) → AreParts regions start stop parts → may_write parts a n ≡ true → holds regions a n Write ≡ true
write_held regions start stop parts a n ok h =
    let both = and_parts (in_a_part a n) (part_at parts (a / 256)).write h in
    held regions a n Write both.0 ((ok.are (a / 256)).write both.1)

-- it lies before the code or after it
pub write_apart : (regions : List Region) (start stop : ℕ) (parts : List Part) (a n : ℕ) → AreParts regions start stop parts → may_write parts a n ≡ true → (a + n ≤ start) ⊎ (stop ≤ a)
write_apart regions start stop parts a n ok h =
    let both = and_parts (in_a_part a n) (part_at parts (a / 256)).write h in
    let there = lies a n both.0 in
    elim ((ok.are (a / 256)).apart both.1) [
      | inl below ↦ inl (omega (arith, below, there.1))
      | inr above ↦ inr (omega (arith, above, there.0))
    ]

none_at : (parts : List Part) (k : ℕ) → parts ≡ replicate (length parts) no_part → part_at parts k ≡ no_part
none_at parts k e = elim (cases_lt k (length parts)) [
  | inl within ↦ ap (λ (xs : List Part). get_or xs k no_part) e ∙ get_or-replicate (length parts) k no_part no_part within
  | inr past ↦ get_or_past parts k no_part past
]

-- all parts, once they are looked at
pub parts_made : (regions : List Region) (start stop first last : ℕ) (before after : List Part) → length before ≤ 2 ^ 24 → before ≡ replicate (length before) no_part → length after ≡ length before → Looked regions start stop first last before after → AreParts regions start stop after
parts_made regions start stop first last before after few none same h = record {
  few = rw same few;
  are = λ k. elim (h k) [
    | inl is ↦ is
    | inr left ↦ no_part_is regions start stop k (part_at after k) (left.1 ∙ none_at before k none)
  ];
}

-- the parts after a region's end has moved
pub parts_moved : (regions : List Region) (start stop region end : ℕ) (before after : List Part) → AreParts regions start stop before → length after ≡ length before → Looked (set_end regions region end) start stop (min (end_of regions region) end / 256) (max (end_of regions region) end / 256 + 1) before after → AreParts (set_end regions region end) start stop after
parts_moved regions start stop region end before after ok same h = record {
  few = rw same ok.few;
  are = λ k. elim (h k) [
    | inl is ↦ is
    | inr left ↦ still k left.0 left.1
  ];
}
  where
    beside : (k : ℕ) → (k < min (end_of regions region) end / 256) ⊎ (max (end_of regions region) end / 256 + 1 ≤ k) → (k * 256 + 256 ≤ end) ⊎ (end_of regions region < k * 256 + 256)
    beside k h = elim h [ inl below ↦ inl (omega (arith, below)) | inr above ↦ inr (omega (arith, above)) ]

    still : (k : ℕ) → (k < min (end_of regions region) end / 256) ⊎ (max (end_of regions region) end / 256 + 1 ≤ k) → part_at after k ≡ part_at before k → IsPart (set_end regions region end) start stop k (part_at after k)
    still k far e =
        let is : IsPart regions start stop k (part_at before k) = ok.are k in
        subst (λ (p : Part). IsPart (set_end regions region end) start stop k p) (sym e) (record {
          read = λ r. covered_still regions region end (k * 256) 256 Read (beside k far) (is.read r);
          write = λ r. covered_still regions region end (k * 256) 256 Write (beside k far) (is.write r);
          apart = is.apart;
        })

covered_in : (rs : List Region) (k : ℕ) (d : Region) → k < length rs → (a n : ℕ) (right : Right) → covers a n right (get_or rs k d) ≡ true → list_any (covers a n right) rs ≡ true
covered_in [] k d h a n right t = absurd (omega (arith, h))
covered_in (r ∷ rs) zero d h a n right t = or_left (covers a n right r) (list_any (covers a n right) rs) t
covered_in (r ∷ rs) (suc k) d h a n right t = or_right (covers a n right r) (list_any (covers a n right) rs) (covered_in rs k d (omega (arith, h)) a n right t)

pub covered_at : (rs : List Region) (k : ℕ) (d : Region) → k < length rs → IsOneOf rs (get_or rs k d)
covered_at rs k d h = record { covered = covered_in rs k d h }

-- parts that are looked at by one of the regions alone
pub looked_by_one : (regions : List Region) (r : Region) (start stop first last : ℕ) (before after : List Part) → IsOneOf regions r → Looked (r ∷ []) start stop first last before after → Looked regions start stop first last before after
looked_by_one regions r start stop first last before after one h = λ k. elim (h k) [
  | inl is ↦ inl (record { read = λ t. by Read k (is.read t); write = λ t. by Write k (is.write t); apart = is.apart })
  | inr left ↦ inr left
]
  where
    by : (right : Right) (k : ℕ) → list_any (covers (k * 256) 256 right) (r ∷ []) ≡ true → list_any (covers (k * 256) 256 right) regions ≡ true
    by right k t = elim (or_cases (covers (k * 256) 256 right r) false t) [
      | inl here ↦ one.covered (k * 256) 256 right here
      | inr none ↦ absurd (cc none)
    ]
