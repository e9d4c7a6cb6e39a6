-- Calls laid out as words.
use Rattle.std.proofs.Common.{◌≡◌, ℕ, List, [], ◌∷◌, ◌++◌, length, get_or, drop, refl, ap, arith, subst}
use Rattle.std.proofs.Math.Seq.{take-append_seam, drop-append_seam}
use borrow.Rule.Slice.PartMut.{put_mid}
use Rattle.nv_rules.specs.Pair.{argument_words}

-- the words of six arguments
pub argument_words-six : (args : List ℕ) → length args ≡ 6
    → get_or args 0 0 ∷ 0 ∷ get_or args 1 0 ∷ 0 ∷ get_or args 2 0 ∷ 0 ∷ get_or args 3 0 ∷ 0 ∷ get_or args 4 0 ∷ 0 ∷ get_or args 5 0 ∷ 0 ∷ [] ≡ argument_words args
argument_words-six [] h = absurd (omega (arith, h))
argument_words-six (a ∷ []) h = absurd (omega (arith, h))
argument_words-six (a ∷ b ∷ []) h = absurd (omega (arith, h))
argument_words-six (a ∷ b ∷ c ∷ []) h = absurd (omega (arith, h))
argument_words-six (a ∷ b ∷ c ∷ d ∷ []) h = absurd (omega (arith, h))
argument_words-six (a ∷ b ∷ c ∷ d ∷ e ∷ []) h = absurd (omega (arith, h))
argument_words-six (a ∷ b ∷ c ∷ d ∷ e ∷ f ∷ []) h = refl
argument_words-six (a ∷ b ∷ c ∷ d ∷ e ∷ f ∷ g ∷ rest) h = absurd (omega (arith, h))

seam : (n : ℕ) (before after words : List ℕ) → put_mid (length before) n (before ++ after) words ≡ before ++ (words ++ drop n after)
seam n before after words = rw take-append_seam (ap (λ (rest : List ℕ). before ++ (words ++ drop n rest)) (drop-append_seam before after))

-- the words after a prefix become others
pub put_mid-after : (a n : ℕ) (before after words : List ℕ) → length before ≡ a → put_mid a n (before ++ after) words ≡ before ++ (words ++ drop n after)
put_mid-after a n before after words h = subst (λ (m : ℕ). put_mid m n (before ++ after) words ≡ before ++ (words ++ drop n after)) h (seam n before after words)
