-- The steps of the loops that bring an answer into memory.
use Rattle.std.proofs.Common.{◌≡◌, ℕ, zero, suc, ◌+◌, ◌-◌, ◌<◌, ◌≤◌, false, List, [], ◌∷◌, ◌++◌, Some, None, option_map, if◌then◌else◌, ◌==◌, length, take, drop, get_or, set, min, refl, sym, ap, ◌∙◌, arith, append_assoc, inl, inr}
use Rattle.std.proofs.lemmas.List.{take_more_set, take_all, drop_all, at_drop_more, at_drop_all}
use Rattle.std.proofs.lemmas.Bool.{cases_lt}
use Rattle.nv_memory.specs.Image.{Image}
use Rattle.nv_guest.specs.declared.vectors.Part.{Part}
use Rattle.nv_guest.specs.Vectors.{vector_at, prefix_of}
use Rattle.nv_guest.specs.Answers.{with_byte, with_each_byte, targets_with, targets_at, scattered}

pub bytes-more : (memory : Image) (bytes : List ℕ) (i at next : ℕ) → i < length bytes → next ≡ at + 1
    → with_each_byte (with_byte memory at (get_or bytes i 0)) next (drop (i + 1) bytes) ≡ with_each_byte memory at (drop i bytes)
unfolding with_each_byte
bytes-more memory bytes i at next inside after =
    ap (λ n. with_each_byte (with_byte memory at (get_or bytes i 0)) n (drop (i + 1) bytes)) after
    ∙ sym (at_drop_more (λ rest. with_each_byte memory at rest) bytes i 0 inside)

pub bytes-all : (memory : Image) (bytes : List ℕ) (i at : ℕ) → length bytes ≤ i → with_each_byte memory at (drop i bytes) ≡ memory
unfolding with_each_byte
bytes-all memory bytes i at past = at_drop_all (λ rest. with_each_byte memory at rest) bytes i past

targets-here : (memory : Image) (count most at : ℕ) → 0 < count → (most == 0) ≡ false
    → targets_at memory count most at ≡ targets_with (option_map (prefix_of most) (vector_at memory at)) (λ size. targets_at memory (count - 1) (most - size) (at + 8))
unfolding targets_at
targets-here memory zero most at some left = absurd (omega arith)
targets-here memory (suc count) most at some left =
    let less : count ≡ suc count - 1 = omega arith in
    ap (λ x. if x then [] else targets_with (option_map (prefix_of most) (vector_at memory at)) (λ size. targets_at memory count (most - size) (at + 8))) left
    ∙ ap (λ n. targets_with (option_map (prefix_of most) (vector_at memory at)) (λ size. targets_at memory n (most - size) (at + 8))) less

pub targets-full : (memory : Image) (count at : ℕ) → targets_at memory count 0 at ≡ []
unfolding targets_at
targets-full memory zero at = refl
targets-full memory (suc count) at = refl

pub targets-all : (memory : Image) (count most at : ℕ) → count ≡ 0 → targets_at memory count most at ≡ []
unfolding targets_at
targets-all memory zero most at e = refl
targets-all memory (suc count) most at e = absurd (omega arith)

pub targets-end : (memory : Image) (count most at : ℕ) → 0 < count → (most == 0) ≡ false → option_map (prefix_of most) (vector_at memory at) ≡ None → targets_at memory count most at ≡ []
targets-end memory count most at some left none =
    targets-here memory count most at some left ∙ ap (λ o. targets_with o (λ size. targets_at memory (count - 1) (most - size) (at + 8))) none

pub targets-more : (memory : Image) (table : List Part) (i count fewer most left at next : ℕ) (part : Part) → i < length table → 0 < count → fewer ≡ count - 1 → (most == 0) ≡ false
    → option_map (prefix_of most) (vector_at memory at) ≡ Some part → left ≡ most - part.size → next ≡ at + 8
    → take (i + 1) (set table i part) ++ targets_at memory fewer left next ≡ take i table ++ targets_at memory count most at
targets-more memory table i count fewer most left at next part inside some less more is rest after =
    ap (λ prefix. prefix ++ targets_at memory fewer left next) (take_more_set table i part inside)
    ∙ append_assoc (take i table) (part ∷ []) (targets_at memory fewer left next)
    ∙ ap (λ n. take i table ++ part ∷ targets_at memory n left next) less
    ∙ ap (λ n. take i table ++ part ∷ targets_at memory (count - 1) n next) rest
    ∙ ap (λ a. take i table ++ part ∷ targets_at memory (count - 1) (most - part.size) a) after
    ∙ sym (ap (λ parts. take i table ++ parts) (targets-here memory count most at some more ∙ ap (λ o. targets_with o (λ size. targets_at memory (count - 1) (most - size) (at + 8))) is))

-- no more than there is
take-least : (size n : ℕ) (bytes : List ℕ) → n ≡ min size (length bytes) → (take n bytes ≡ take size bytes) × (drop n bytes ≡ drop size bytes)
take-least size n bytes e =
    elim (cases_lt size (length bytes)) [
      | inl below ↦ (let same : n ≡ size = omega arith in (ap (λ k. take k bytes) same, ap (λ k. drop k bytes) same))
      | inr past ↦ (let same : n ≡ length bytes = omega arith in
          (ap (λ k. take k bytes) same ∙ take_all (length bytes) bytes (omega arith) ∙ sym (take_all size bytes past), ap (λ k. drop k bytes) same ∙ drop_all (length bytes) bytes (omega arith) ∙ sym (drop_all size bytes past)))
    ]

pub scattered-more : (memory : Image) (parts : List Part) (bytes prefix later : List ℕ) (i n : ℕ) (d : Part) → i < length parts → n ≡ min (get_or parts i d).size (length bytes) → prefix ≡ take n bytes → later ≡ drop n bytes
    → scattered (with_each_byte memory (get_or parts i d).address prefix) (drop (i + 1) parts) later ≡ scattered memory (drop i parts) bytes
unfolding scattered
scattered-more memory parts bytes prefix later i n d inside least first back =
    let taken = take-least (get_or parts i d).size n bytes least in
    ap (λ xs. scattered (with_each_byte memory (get_or parts i d).address xs) (drop (i + 1) parts) later) (first ∙ taken.0)
    ∙ ap (λ xs. scattered (with_each_byte memory (get_or parts i d).address (take (get_or parts i d).size bytes)) (drop (i + 1) parts) xs) (back ∙ taken.1)
    ∙ sym (at_drop_more (λ rest. scattered memory rest bytes) parts i d inside)

pub scattered-all : (memory : Image) (parts : List Part) (bytes : List ℕ) (i : ℕ) → length parts ≤ i → scattered memory (drop i parts) bytes ≡ memory
unfolding scattered
scattered-all memory parts bytes i past = at_drop_all (λ rest. scattered memory rest bytes) parts i past
