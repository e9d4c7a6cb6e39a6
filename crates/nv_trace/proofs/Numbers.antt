-- Numbers of four bytes each, written and read back.
use Rattle.std.proofs.Common.{◌≡◌, ℕ, zero, suc, ◌+◌, ◌*◌, ◌^◌, ◌<◌, ◌≤◌, List, [], ◌∷◌, ◌++◌, length, take, drop, get_or, refl, sym, ap, ◌∙◌, arith}
use Rattle.std.proofs.lemmas.List.{drop-drop}
use Rattle.std.proofs.lemmas.Nat.{le_bytes_4}
use Rattle.byteorder.specs.Endian.{little_number, little_bytes}
use Rattle.byteorder.specs.Numbers.{little_from-lt}
use Rattle.nv_bytes.specs.LittleEndian.{field_at}
use Rattle.nv_bytes.proofs.FieldLaws.{field_at-append, field_at-little_bytes}
use Rattle.nv_trace.specs.Trace.{number_bytes}

pub length-numbers : (ns : List ℕ) → length (number_bytes ns) ≡ 4 * length ns
unfolding number_bytes
length-numbers [] = refl
length-numbers (n ∷ ns) = let rest = length-numbers ns in omega arith

-- a number that was written is read back
pub field-numbers : (ns rest : List ℕ) (k : ℕ) → k < length ns → get_or ns k 0 < 256 ^ 4 → field_at 4 (number_bytes ns ++ rest) (4 * k) ≡ get_or ns k 0
unfolding number_bytes
field-numbers [] rest k less fits = absurd (omega arith)
field-numbers (n ∷ ns) rest zero less fits = field_at-little_bytes 4 n (number_bytes ns ++ rest) fits
field-numbers (n ∷ ns) rest (suc k) less fits =
    let on : 4 * suc k ≡ 4 + 4 * k = omega arith in
    ap (field_at 4 (number_bytes (n ∷ ns) ++ rest)) on ∙ field_at-append 4 (little_bytes 4 n) (number_bytes ns ++ rest) (4 * k) ∙ field-numbers ns rest k (omega arith) fits

-- the numbers in the fields from a place on
abbrev pub words_at : ℕ → ℕ → List ℕ → List ℕ
words_at place zero bytes = []
words_at place (suc n) bytes = field_at 4 bytes place ∷ words_at (place + 4) n bytes

-- four bytes are those of the number that they spell
four : (bs : List ℕ) → 4 ≤ length bs → ((i : ℕ) → get_or bs i 0 < 256) → little_bytes 4 (little_number 4 bs) ≡ take 4 bs
four [] long below = absurd (omega arith)
four (a ∷ []) long below = absurd (omega arith)
four (a ∷ b ∷ []) long below = absurd (omega arith)
four (a ∷ b ∷ c ∷ []) long below = absurd (omega arith)
four (a ∷ b ∷ c ∷ d ∷ bs) long below = le_bytes_4 (a ∷ b ∷ c ∷ d ∷ []) (little_number 4 (a ∷ b ∷ c ∷ d ∷ bs)) refl all (omega arith)
  where
    all : (i : ℕ) → get_or (a ∷ b ∷ c ∷ d ∷ []) i 0 < 256
    all zero = below 0
    all (suc zero) = below 1
    all (suc (suc zero)) = below 2
    all (suc (suc (suc zero))) = below 3
    all (suc (suc (suc (suc i)))) = omega arith

pub below_drop : (n : ℕ) (bs : List ℕ) → ((i : ℕ) → get_or bs i 0 < 256) → (i : ℕ) → get_or (drop n bs) i 0 < 256
below_drop zero bs below i = below i
below_drop (suc n) [] below i = below i
below_drop (suc n) (b ∷ bs) below i = below_drop n bs (λ k. below (suc k)) i

take_nothing : (n : ℕ) → ◌≡◌ {A = List ℕ} [] (take n [])
take_nothing zero = refl
take_nothing (suc n) = refl

pub take_sum : (a b : ℕ) (bs : List ℕ) → take (a + b) bs ≡ take a bs ++ take b (drop a bs)
take_sum zero b bs = let e : 0 + b ≡ b = omega arith in ap (λ n. take n bs) e
take_sum (suc a) b [] = let e : suc a + b ≡ suc (a + b) = omega arith in ap (λ n. take n ([])) e ∙ take_nothing b
take_sum (suc a) b (x ∷ bs) = let e : suc a + b ≡ suc (a + b) = omega arith in ap (λ n. take n (x ∷ bs)) e ∙ ap (λ t. x ∷ t) (take_sum a b bs)

length_drop : (n m : ℕ) (bs : List ℕ) → n + m ≤ length bs → m ≤ length (drop n bs)
length_drop zero m bs h = omega arith
length_drop (suc n) m [] h = absurd (omega arith)
length_drop (suc n) m (b ∷ bs) h = length_drop n m bs (omega arith)

-- the bytes of the fields are those of the numbers in them
pub numbers-words : (n place : ℕ) (bs : List ℕ) → place + 4 * n ≤ length bs → ((i : ℕ) → get_or bs i 0 < 256) → number_bytes (words_at place n bs) ≡ take (4 * n) (drop place bs)
unfolding number_bytes field_at
numbers-words zero place bs long below = refl
numbers-words (suc n) place bs long below =
    let first = four (drop place bs) (length_drop place 4 bs (omega arith)) (below_drop place bs below) in
    let rest = numbers-words n (place + 4) bs (omega arith) below in
    let on : 4 * suc n ≡ 4 + 4 * n = omega arith in
    (λ i. first i ++ rest i) ∙ ap (λ t. take 4 (drop place bs) ++ take (4 * n) t) (sym (drop-drop 4 place bs)) ∙ sym (take_sum 4 (4 * n) (drop place bs))
    ∙ ap (λ k. take k (drop place bs)) (sym on)

-- a field is below 2 to the 32
pub field-below : (place : ℕ) (bs : List ℕ) → ((i : ℕ) → get_or bs i 0 < 256) → field_at 4 bs place < 2 ^ 32
unfolding field_at
field-below place bs below = little_from-lt 0 4 (drop place bs) (below_drop place bs below)
