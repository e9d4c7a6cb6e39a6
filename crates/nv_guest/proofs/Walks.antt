-- The steps of the walks along paths and vectors.
use Rattle.std.proofs.Common.{◌≡◌, ℕ, zero, suc, ◌+◌, ◌-◌, ◌<◌, true, false, List, [], ◌∷◌, ◌++◌, Option, Some, None, option_map, if◌then◌else◌, ◌==◌, length, take, set, refl, sym, ap, ◌∙◌, arith, append_assoc, append-nil, add_assoc}
use Rattle.std.proofs.lemmas.List.{take_more_set}
use Rattle.nv_memory.specs.declared.region.Right.{Right}
use Rattle.nv_memory.specs.Bytes.{bytes_at}
use Rattle.nv_memory.specs.Image.{Image}
use Rattle.nv_guest.specs.declared.vectors.Part.{Part}
use Rattle.nv_guest.specs.Paths.{byte_at, path_with, path_at}
use Rattle.nv_guest.specs.Vectors.{usable_at, parts_with, parts_at, capacity, joined_parts}

path-here : (memory : Image) (most at : ℕ) → 0 < most → path_at most memory at ≡ path_with (byte_at memory at) (path_at (most - 1) memory (at + 1))
unfolding path_at
path-here memory zero at some = absurd (omega arith)
path-here memory (suc most) at some =
    let less : most ≡ suc most - 1 = omega arith in
    ap (λ n. path_with (byte_at memory at) (path_at n memory (at + 1))) less

-- a byte that isn't 0 joins those before
pub path-more : (memory : Image) (bytes : List ℕ) (i most least at next b : ℕ) → i < length bytes → 0 < most → least ≡ most - 1 → next ≡ at + 1 → byte_at memory at ≡ Some b → (b == 0) ≡ false
    → option_map (λ later. take (i + 1) (set bytes i b) ++ later) (path_at least memory next) ≡ option_map (λ later. take i bytes ++ later) (path_at most memory at)
path-more memory bytes i most least at next b inside some less after byte more =
    sym (ap (option_map (λ later. take i bytes ++ later)) (path-here memory most at some ∙ ap (λ o. path_with o (path_at (most - 1) memory (at + 1))) byte
    ∙ ap (λ x. if x then Some [] else option_map (λ bs. b ∷ bs) (path_at (most - 1) memory (at + 1))) more)
    ∙ joined_on (path_at (most - 1) memory (at + 1))
    ∙ ap (λ prefix. option_map (λ later. prefix ++ later) (path_at (most - 1) memory (at + 1))) (sym (take_more_set bytes i b inside))
    ∙ ap (λ n. option_map (λ later. take (i + 1) (set bytes i b) ++ later) (path_at n memory (at + 1))) (sym less)
    ∙ ap (λ a. option_map (λ later. take (i + 1) (set bytes i b) ++ later) (path_at least memory a)) (sym after))
  where
    joined_on : (o : Option (List ℕ)) → option_map (λ later. take i bytes ++ later) (option_map (λ bs. b ∷ bs) o) ≡ option_map (λ later. (take i bytes ++ b ∷ []) ++ later) o
    joined_on None = refl
    joined_on (Some bs) = ap Some (sym (append_assoc (take i bytes) (b ∷ []) bs))

-- a 0 byte ends it
pub path-ends : (memory : Image) (bytes : List ℕ) (i most at b : ℕ) → 0 < most → byte_at memory at ≡ Some b → (b == 0) ≡ true
    → Some (take i bytes) ≡ option_map (λ later. take i bytes ++ later) (path_at most memory at)
path-ends memory bytes i most at b some byte ends =
    sym (ap (option_map (λ later. take i bytes ++ later)) (path-here memory most at some ∙ ap (λ o. path_with o (path_at (most - 1) memory (at + 1))) byte
    ∙ ap (λ x. if x then Some [] else option_map (λ bs. b ∷ bs) (path_at (most - 1) memory (at + 1))) ends)
    ∙ ap Some (append-nil (take i bytes)))

-- a byte that may not be read refuses it
pub path-refused : (memory : Image) (bytes : List ℕ) (i most at : ℕ) → 0 < most → byte_at memory at ≡ None → None ≡ option_map (λ later. take i bytes ++ later) (path_at most memory at)
path-refused memory bytes i most at some byte =
    sym (ap (option_map (λ later. take i bytes ++ later)) (path-here memory most at some ∙ ap (λ o. path_with o (path_at (most - 1) memory (at + 1))) byte))

-- after the last byte there is no more
pub path-all : (memory : Image) (bytes : List ℕ) (i most at : ℕ) → most ≡ 0 → Some (take i bytes) ≡ option_map (λ later. take i bytes ++ later) (path_at most memory at)
unfolding path_at
path-all memory bytes i zero at e = ap Some (sym (append-nil (take i bytes)))
path-all memory bytes i (suc most) at e = absurd (omega arith)

-- ---- vectors

parts-here : (memory : Image) (right : Right) (count most at : ℕ) → 0 < count → (most == 0) ≡ false
    → parts_at memory right count most at ≡ parts_with (usable_at memory right most at) (λ size. parts_at memory right (count - 1) (most - size) (at + 8))
unfolding parts_at
parts-here memory right zero most at some left = absurd (omega arith)
parts-here memory right (suc count) most at some left =
    let less : count ≡ suc count - 1 = omega arith in
    ap (λ x. if x then Some [] else parts_with (usable_at memory right most at) (λ size. parts_at memory right count (most - size) (at + 8))) left
    ∙ ap (λ n. parts_with (usable_at memory right most at) (λ size. parts_at memory right n (most - size) (at + 8))) less

-- where no bytes are left, or no vectors, there are no parts
pub parts-full : (memory : Image) (right : Right) (count at : ℕ) → parts_at memory right count 0 at ≡ Some []
unfolding parts_at
parts-full memory right zero at = refl
parts-full memory right (suc count) at = refl

pub parts-all : (memory : Image) (right : Right) (count most at : ℕ) → count ≡ 0 → parts_at memory right count most at ≡ Some []
unfolding parts_at
parts-all memory right zero most at e = refl
parts-all memory right (suc count) most at e = absurd (omega arith)

pub parts-refused : (memory : Image) (right : Right) (count most at : ℕ) → 0 < count → (most == 0) ≡ false → usable_at memory right most at ≡ None → parts_at memory right count most at ≡ None
parts-refused memory right count most at some left none =
    parts-here memory right count most at some left ∙ ap (λ o. parts_with o (λ size. parts_at memory right (count - 1) (most - size) (at + 8))) none

pub parts-more : (memory : Image) (right : Right) (count fewer most left at next : ℕ) (part : Part) → 0 < count → fewer ≡ count - 1 → (most == 0) ≡ false → usable_at memory right most at ≡ Some part → left ≡ most - part.size → next ≡ at + 8
    → parts_at memory right count most at ≡ option_map (λ parts. part ∷ parts) (parts_at memory right fewer left next)
parts-more memory right count fewer most left at next part some less more is rest after =
    parts-here memory right count most at some more ∙ ap (λ o. parts_with o (λ size. parts_at memory right (count - 1) (most - size) (at + 8))) is
    ∙ ap (λ n. option_map (λ parts. part ∷ parts) (parts_at memory right n (most - part.size) (at + 8))) (sym less)
    ∙ ap (λ n. option_map (λ parts. part ∷ parts) (parts_at memory right fewer n (at + 8))) (sym rest)
    ∙ ap (λ a. option_map (λ parts. part ∷ parts) (parts_at memory right fewer left a)) (sym after)

-- bytes counted before a part and those after it
pub capacity-more : (before now : ℕ) (part : Part) (parts : Option (List Part)) → now ≡ before + part.size
    → option_map (λ later. before + capacity later) (option_map (λ later. part ∷ later) parts) ≡ option_map (λ later. now + capacity later) parts
capacity-more before now part None e = refl
capacity-more before now part (Some parts) e = ap Some (sym (add_assoc before part.size (capacity parts)) ∙ ap (λ n. n + capacity parts) (sym e))

-- bytes read before a part and those after it
pub joined-more : (memory : Image) (before now : List ℕ) (part : Part) (parts : Option (List Part)) → now ≡ before ++ bytes_at memory.bytes part.address part.size
    → option_map (λ later. before ++ joined_parts memory later) (option_map (λ later. part ∷ later) parts) ≡ option_map (λ later. now ++ joined_parts memory later) parts
joined-more memory before now part None e = refl
joined-more memory before now part (Some parts) e =
    ap Some (sym (append_assoc before (bytes_at memory.bytes part.address part.size) (joined_parts memory parts)) ∙ ap (λ prefix. prefix ++ joined_parts memory parts) (sym e))
