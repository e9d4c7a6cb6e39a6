-- A file's bytes, byte by byte.
use Rattle.std.proofs.Common.{◌≡◌, ◌∙◌, sym, ap, refl, ℕ, zero, suc, ◌+◌, ◌-◌, ◌<◌, ◌≤◌, inl, inr, false, List, [], ◌∷◌, ◌++◌, length, map, take, drop, replicate, get_or, Option, is_some, min, max, arith}
use Rattle.std.specs.List.{range_with_len}
use Rattle.std.proofs.lemmas.Bool.{cases_lt}
use Rattle.std.proofs.lemmas.Bool.Decides.{nat_tests}
use Rattle.std.proofs.lemmas.List.{ext_get_or, length-take, length-drop, length-append, length-replicate, get_or-take, get_or-drop, get_or_past, get_or_append_left, get_or-append_right, get_or-replicate}
use Rattle.std.proofs.lemmas.List.FromFn.{length-map-range_with_len, get_or-map-range_with_len}
use Rattle.nv_fs.specs.Contents.{block_at, overwritten, with_bytes, part_of}

-- the value of a function at each number below a length, and past it where it is 0 there
pub listed : (f : ℕ → ℕ) (len : ℕ) → ((p : ℕ) → len ≤ p → f p ≡ 0) → (p : ℕ) → get_or (map f (range_with_len 0 len)) p 0 ≡ f p
listed f len z p = elim (cases_lt p len) [
  | inl lt ↦ get_or-map-range_with_len f 0 len p p 0 lt (omega arith)
  | inr ge ↦ get_or_past (map f (range_with_len 0 len)) p 0 (omega (arith, length-map-range_with_len f 0 len)) ∙ sym (z p ge)
]

-- the same function gives the same list
pub same_map : (f g : ℕ → ℕ) → ((p : ℕ) → f p ≡ g p) → (xs : List ℕ) → map f xs ≡ map g xs
same_map f g h [] = refl
same_map f g h (x ∷ xs) = (λ j. h x j ∷ same_map f g h xs j)

-- whether a block is held, in the list of what is held
pub held_at : (blocks : List (Option (List ℕ))) (k : ℕ) → get_or (map is_some blocks) k false ≡ is_some (block_at blocks k)
held_at [] k = refl
held_at (b ∷ bs) zero = refl
held_at (b ∷ bs) (suc k) = held_at bs k

pub over_in : (place : ℕ) (bytes : List ℕ) (x p : ℕ) → place ≤ p → p < place + length bytes → overwritten place bytes x p ≡ get_or bytes (p - place) 0
over_in place bytes x p h l = grind (arith, nat_tests)

pub over_below : (place : ℕ) (bytes : List ℕ) (x p : ℕ) → p < place → overwritten place bytes x p ≡ x
over_below place bytes x p h = grind (arith, nat_tests)

pub over_past : (place : ℕ) (bytes : List ℕ) (x p : ℕ) → place + length bytes ≤ p → overwritten place bytes x p ≡ x
over_past place bytes x p h = grind (arith, nat_tests)

-- what stands before a write, with the gap
abbrev prefix : List ℕ → ℕ → List ℕ
prefix old place = take place old ++ replicate (place - length old) 0

prefix_length : (old : List ℕ) (place : ℕ) → length (prefix old place) ≡ place
prefix_length old place = omega (arith, length-append (take place old) (replicate (place - length old) 0), length-take place old, length-replicate {A = ℕ} (place - length old) 0)

prefix_at : (old : List ℕ) (place p : ℕ) → p < place → get_or (prefix old place) p 0 ≡ get_or old p 0
prefix_at old place p h =
    let short : length (take place old) ≡ min place (length old) = length-take place old in
    elim (cases_lt p (length old)) [
      | inl lt ↦ get_or_append_left (take place old) (replicate (place - length old) 0) 0 p (omega arith) ∙ get_or-take place old p 0 h
      | inr ge ↦ get_or-append_right (take place old) (replicate (place - length old) 0) (length old) p 0 (omega arith) ge ∙ get_or-replicate (place - length old) (p - length old) 0 0 (omega arith) ∙ sym (get_or_past old p 0 ge)
    ]

-- a byte after a write
pub with_bytes_at : (old : List ℕ) (place : ℕ) (bytes : List ℕ) (p : ℕ) → get_or (with_bytes old place bytes) p 0 ≡ overwritten place bytes (get_or old p 0) p
with_bytes_at old place bytes p =
    let before = prefix old place in
    let rest = drop (place + length bytes) old in
    let long : length before ≡ place = prefix_length old place in
    let longer : length (before ++ bytes) ≡ place + length bytes = omega (arith, length-append before bytes) in
    elim (cases_lt p (place + length bytes)) [
      | inl lt ↦ get_or_append_left (before ++ bytes) rest 0 p (omega arith) ∙ elim (cases_lt p place) [
        | inl l ↦ get_or_append_left before bytes 0 p (omega arith) ∙ prefix_at old place p l ∙ sym (over_below place bytes (get_or old p 0) p l)
        | inr g ↦ get_or-append_right before bytes place p 0 long g ∙ sym (over_in place bytes (get_or old p 0) p g lt)
      ]
      | inr ge ↦ get_or-append_right (before ++ bytes) rest (place + length bytes) p 0 longer ge ∙ get_or-drop (place + length bytes) old (p - (place + length bytes)) 0
          ∙ ap (λ (n : ℕ). get_or old n 0) (omega arith) ∙ sym (over_past place bytes (get_or old p 0) p ge)
    ]

-- the length after a write
pub with_bytes_length : (old : List ℕ) (place : ℕ) (bytes : List ℕ) → length (with_bytes old place bytes) ≡ max (length old) (place + length bytes)
with_bytes_length old place bytes =
    omega (arith, prefix_length old place, length-append (prefix old place) bytes, length-append (prefix old place ++ bytes) (drop (place + length bytes) old), length-drop (place + length bytes) old)

-- a write over the function's values
pub written : (f g : ℕ → ℕ) (len place : ℕ) (bytes : List ℕ) → ((p : ℕ) → g p ≡ overwritten place bytes (f p) p) → ((p : ℕ) → len ≤ p → f p ≡ 0)
    → map g (range_with_len 0 (max len (place + length bytes))) ≡ with_bytes (map f (range_with_len 0 len)) place bytes
written f g len place bytes h z =
    let old = map f (range_with_len 0 len) in
    let n = max len (place + length bytes) in
    let long : length (map g (range_with_len 0 n)) ≡ n = length-map-range_with_len g 0 n in
    let before : length old ≡ len = length-map-range_with_len f 0 len in
    ext_get_or 0 (map g (range_with_len 0 n)) (with_bytes old place bytes) (long ∙ sym (with_bytes_length old place bytes ∙ ap (λ (m : ℕ). max m (place + length bytes)) before))
    (λ i l. get_or-map-range_with_len g 0 n i i 0 (omega arith) (omega arith) ∙ h i ∙ ap (λ (x : ℕ). overwritten place bytes x i) (sym (listed f len z i)) ∙ sym (with_bytes_at old place bytes i))

-- a write in two parts is the write of both
pub over_more : (place done end : ℕ) (bytes : List ℕ) (x p : ℕ) → done ≤ end → end ≤ length bytes
    → overwritten (place + done) (take (end - done) (drop done bytes)) (overwritten place (take done bytes) x p) p ≡ overwritten place (take end bytes) x p
over_more place done end bytes x p d e =
    let first = take done bytes in
    let second = take (end - done) (drop done bytes) in
    let both = take end bytes in
    let first_long : length first ≡ done = omega (arith, length-take done bytes) in
    let second_long : length second ≡ end - done = omega (arith, length-take (end - done) (drop done bytes), length-drop done bytes) in
    let both_long : length both ≡ end = omega (arith, length-take end bytes) in
    elim (cases_lt p (place + done)) [
      | inl l ↦ over_below (place + done) second (overwritten place first x p) p l ∙ elim (cases_lt p place) [
        | inl b ↦ over_below place first x p b ∙ sym (over_below place both x p b)
        | inr g ↦ over_in place first x p g (omega arith) ∙ get_or-take done bytes (p - place) 0 (omega arith) ∙ sym (over_in place both x p g (omega arith) ∙ get_or-take end bytes (p - place) 0 (omega arith))
      ]
      | inr g ↦ elim (cases_lt p (place + end)) [
        | inl l ↦ over_in (place + done) second (overwritten place first x p) p g (omega arith) ∙ get_or-take (end - done) (drop done bytes) (p - (place + done)) 0 (omega arith) ∙ get_or-drop done bytes (p - (place + done)) 0
            ∙ ap (λ (n : ℕ). get_or bytes n 0) (omega arith) ∙ sym (over_in place both x p (omega arith) (omega arith) ∙ get_or-take end bytes (p - place) 0 (omega arith))
        | inr m ↦ over_past (place + done) second (overwritten place first x p) p (omega arith) ∙ over_past place first x p (omega arith) ∙ sym (over_past place both x p (omega arith))
      ]
    ]

-- what a read gives is the part of the list
pub part_is : (f : ℕ → ℕ) (len from n : ℕ) (ys : List ℕ) → length ys ≡ min n (len - from) → ((k : ℕ) → k < length ys → get_or ys k 0 ≡ f (from + k))
    → ys ≡ part_of (map f (range_with_len 0 len)) from n
part_is f len from n ys l h =
    let xs = map f (range_with_len 0 len) in
    let long : length xs ≡ len = length-map-range_with_len f 0 len in
    ext_get_or 0 ys (part_of xs from n) (omega (arith, length-take n (drop from xs), length-drop from xs))
    (λ i s. h i s ∙ sym (get_or-take n (drop from xs) i 0 (omega arith) ∙ get_or-drop from xs i 0 ∙ get_or-map-range_with_len f 0 len (from + i) (from + i) 0 (omega arith) (omega arith)))
