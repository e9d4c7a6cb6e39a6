-- Bytes that stand in a memory.
use Rattle.std.proofs.Common.{◌≡◌, ℕ, zero, suc, ◌+◌, ◌^◌, ◌<◌, ◌≤◌, List, [], ◌∷◌, ◌++◌, length, take, refl, ap, ◌∙◌, length-append, arith}
use Rattle.std.specs.Prelude.{slice_index, slice_set}
use Rattle.std.proofs.lemmas.List.{get_or-set_same, get_or-set_other, length-set, get_or-append-add}
use Rattle.byteorder.specs.Numbers.{little_number-reads_back}
use Rattle.nv_isa.specs.declared.op.Insn.{Insn}
use Rattle.nv_isa.specs.Spelling.{encoded}
use Rattle.nv_memory.specs.Bytes.{put, bytes_at, little}
use Rattle.nv_gen.specs.Programs.{insn_bytes}

-- the list stands in the bytes from an address on
abbrev pub Carries : List ℕ → ℕ → List ℕ → Type 0
Carries bytes a xs = (k : ℕ) → k < length xs → slice_index bytes (a + k) ≡ slice_index xs k

pub put-below : (bytes : List ℕ) (a : ℕ) (from : List ℕ) (j : ℕ) → j < a → slice_index (put bytes a from) j ≡ slice_index bytes j
put-below bytes a [] j below = refl
put-below bytes a (b ∷ bs) j below = put-below (slice_set bytes a b) (a + 1) bs j (omega arith) ∙ get_or-set_other bytes a j b 0 (omega arith)

pub carries-put : (bytes : List ℕ) (a : ℕ) (from : List ℕ) → a + length from ≤ length bytes → Carries (put bytes a from) a from
carries-put bytes a [] fits k small = absurd (omega arith)
carries-put bytes a (b ∷ bs) fits zero small =
    ap (slice_index (put (slice_set bytes a b) (a + 1) bs)) (omega arith) ∙ put-below (slice_set bytes a b) (a + 1) bs a (omega arith) ∙ get_or-set_same bytes a b 0 (omega arith)
carries-put bytes a (b ∷ bs) fits (suc k) small =
    let long = length-set bytes a b in
    ap (slice_index (put (slice_set bytes a b) (a + 1) bs)) (omega arith) ∙ carries-put (slice_set bytes a b) (a + 1) bs (omega arith) k (omega arith)

pub carries-after : (bytes : List ℕ) (a : ℕ) (xs ys : List ℕ) → Carries bytes a (xs ++ ys) → Carries bytes (a + length xs) ys
carries-after bytes a xs ys all k small =
    let long = length-append xs ys in
    ap (slice_index bytes) (omega arith) ∙ all (length xs + k) (omega arith) ∙ get_or-append-add xs ys k 0

pub bytes-carried : (bytes : List ℕ) (a : ℕ) (n : ℕ) (xs : List ℕ) → n ≤ length xs → Carries bytes a xs → bytes_at bytes a n ≡ take n xs
bytes-carried bytes a zero xs few all = refl
bytes-carried bytes a (suc n) [] few all = absurd (omega arith)
bytes-carried bytes a (suc n) (x ∷ xs) few all =
    let first : slice_index bytes a ≡ x = ap (slice_index bytes) (omega arith) ∙ all 0 (omega arith) in
    let rest : bytes_at bytes (a + 1) n ≡ take n xs = bytes-carried bytes (a + 1) n xs (omega arith) (λ k small. ap (slice_index bytes) (omega arith) ∙ all (suc k) (omega arith)) in
    ap (λ y. y ∷ bytes_at bytes (a + 1) n) first ∙ ap (λ ys. x ∷ ys) rest

-- the number of an instruction's four bytes is its word
pub word-carried : (bytes : List ℕ) (pc : ℕ) (i : Insn) (rest : List ℕ) → encoded i < 2 ^ 32 → Carries bytes pc (insn_bytes i ++ rest) → little (bytes_at bytes pc 4) ≡ encoded i
unfolding insn_bytes
word-carried bytes pc i rest small all =
    ap little (bytes-carried bytes pc 4 (insn_bytes i ++ rest) (omega arith) all) ∙ little_number-reads_back 4 (encoded i) rest small
