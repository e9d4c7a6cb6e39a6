-- Texts of pairs of hexadecimal digits.
use Rattle.std.proofs.Common.{◌≡◌, ℕ, ◌+◌, ◌*◌, ◌%◌, Bool, true, false, cond, ◌&&◌, List, [], ◌∷◌, length, Option, Some, None, option_map, ◌==◌, ◌∙◌, ◌++◌, ◌-◌, ◌≤◌, ◌<◌, take, drop, get_or, append_assoc, refl, ap, arith}
use Rattle.std.specs.Char.{is_ascii_hexdigit, digit_value}
use Rattle.std.specs.List.{list_all}
use Rattle.std.proofs.Math.Nat.{add-mod_right}
use Rattle.std.proofs.lemmas.List.{append-nil, take_all}
use Rattle.nv_bytes.specs.Numbers.{unhexed, paired, pair_of}

chosen : (even a b rest : Bool) (byte : ℕ) (more : List ℕ) →
    cond (even && (a && (b && rest))) (Some (byte ∷ more)) None ≡ cond (a && b) (option_map (λ bytes. byte ∷ bytes) (cond (even && rest) (Some more) None)) None
chosen true true true true byte more = refl
chosen true true true false byte more = refl
chosen true true false true byte more = refl
chosen true true false false byte more = refl
chosen true false true rest byte more = refl
chosen true false false rest byte more = refl
chosen false true true rest byte more = refl
chosen false true false rest byte more = refl
chosen false false b rest byte more = refl

unhexed-cons : (a b : ℕ) (text : List ℕ) → unhexed (a ∷ b ∷ text) ≡ cond (is_ascii_hexdigit a && is_ascii_hexdigit b) (option_map (λ more. (16 * digit_value a + digit_value b) ∷ more) (unhexed text)) None
unfolding unhexed
unhexed-cons a b text =
    let even : length (a ∷ b ∷ text) % 2 ≡ length text % 2 = ap (λ n. n % 2) (omega arith) ∙ add-mod_right (length text) 2 in
    rw even (chosen (length text % 2 == 0) (is_ascii_hexdigit a) (is_ascii_hexdigit b) (list_all is_ascii_hexdigit text) (16 * digit_value a + digit_value b) (paired text))

-- a pair with a byte
pair-read : (a b byte : ℕ) (text : List ℕ) → pair_of a b ≡ Some byte → unhexed (a ∷ b ∷ text) ≡ option_map (λ more. byte ∷ more) (unhexed text)
pair-read a b byte text e = unhexed-cons a b text ∙ go (is_ascii_hexdigit a && is_ascii_hexdigit b) (16 * digit_value a + digit_value b) e where
  go : (both : Bool) (value : ℕ) → cond both (Some value) None ≡ Some byte → cond both (option_map (λ more. value ∷ more) (unhexed text)) None ≡ option_map (λ more. byte ∷ more) (unhexed text)
  go true value h = let same : value ≡ byte = cc in rw same refl
  go false value h = cc

-- a pair without a byte
pair-refused : (a b : ℕ) (text : List ℕ) → pair_of a b ≡ None → unhexed (a ∷ b ∷ text) ≡ None
pair-refused a b text e = unhexed-cons a b text ∙ go (is_ascii_hexdigit a && is_ascii_hexdigit b) (16 * digit_value a + digit_value b) e where
  go : (both : Bool) (value : ℕ) → cond both (Some value) None ≡ None → cond both (option_map (λ more. value ∷ more) (unhexed text)) None ≡ None
  go true value h = cc
  go false value h = refl

joined : (before : List ℕ) (byte : ℕ) (more : Option (List ℕ)) → option_map (λ m. (before ++ byte ∷ []) ++ m) more ≡ option_map (λ m. before ++ m) (option_map (λ m. byte ∷ m) more)
joined before byte None = refl
joined before byte (Some more) = ap Some (append_assoc before (byte ∷ []) more)

-- the loop's step: the first pair of the rest has a byte
pub pair-step : (before rest tail : List ℕ) (byte : ℕ) → 2 ≤ length rest → tail ≡ take (length rest - 2) (drop 2 rest) → pair_of (get_or rest 0 0) (get_or rest 1 0) ≡ Some byte →
    option_map (λ more. (before ++ byte ∷ []) ++ more) (unhexed tail) ≡ option_map (λ more. before ++ more) (unhexed rest)
pair-step before [] tail byte long e h = absurd (omega arith)
pair-step before (a ∷ []) tail byte long e h = absurd (omega arith)
pair-step before (a ∷ b ∷ rest) tail byte long e h =
    let all : tail ≡ rest = e ∙ take_all (length (a ∷ b ∷ rest) - 2) rest (omega arith) in
    rw (all, pair-read a b byte rest h) (joined before byte (unhexed rest))

pub pair-ends : (before rest : List ℕ) → 2 ≤ length rest → pair_of (get_or rest 0 0) (get_or rest 1 0) ≡ None → option_map (λ more. before ++ more) (unhexed rest) ≡ None
pair-ends before [] long h = absurd (omega arith)
pair-ends before (a ∷ []) long h = absurd (omega arith)
pair-ends before (a ∷ b ∷ rest) long h = ap (option_map (λ more. before ++ more)) (pair-refused a b rest h)

-- the rest is too short for a pair
pub rest-ends : (before rest : List ℕ) → length rest < 2 → option_map (λ more. before ++ more) (unhexed rest) ≡ cond (length rest == 0) (Some before) None
unfolding unhexed
rest-ends before [] short = ap Some (append-nil before)
rest-ends before (a ∷ []) short = refl
rest-ends before (a ∷ b ∷ rest) short = absurd (omega arith)
