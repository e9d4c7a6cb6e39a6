-- Numbers with a sign.
use Rattle.std.proofs.Common.{◌≡◌, ℕ, ◌≤◌, true, List, [], ◌∷◌, Option, Some, None, option_map, length, get_or, drop, refl, ap, sym, ◌∙◌, arith}
use Rattle.std.specs.Prelude.{pos, neg_ℤ}
use Rattle.std.proofs.lemmas.Int.{ints}
use Rattle.std.proofs.lemmas.Bool.Decides.{nat_tests}
use Rattle.nv_asm.specs.Numbers.{magnitude, literal}
use Rattle.nv_asm.specs.inner.Small.{small, small_signed, with_sign}

one-minus : (n : ℕ) → option_map (with_sign true) (small n) ≡ small_signed (neg_ℤ (pos n))
one-minus n = grind (arith, ints, nat_tests)

minus : (m : Option ℕ) (size : Option ℕ) → option_map small m ≡ Some size → Some (option_map (with_sign true) size) ≡ option_map small_signed (option_map (λ n. neg_ℤ (pos n)) m)
minus None size e = cc
minus (Some n) size e = let s : small n ≡ size = cc in ap (λ (x : Option ℕ). Some (option_map (with_sign true) x)) (sym s) ∙ ap Some (one-minus n)

literal-minus : (text : List ℕ) → 1 ≤ length text → get_or text 0 0 ≡ 45 → literal text ≡ option_map (λ n. neg_ℤ (pos n)) (magnitude (drop 1 text))
unfolding literal
literal-minus [] long e = absurd (omega arith)
literal-minus (b ∷ digits) long e = rw e refl

pub literal-signed : (text : List ℕ) (size : Option ℕ) → 1 ≤ length text → get_or text 0 0 ≡ 45 → option_map small (magnitude (drop 1 text)) ≡ Some size
    → Some (option_map (with_sign true) size) ≡ option_map small_signed (literal text)
literal-signed text size long e h = minus (magnitude (drop 1 text)) size h ∙ ap (option_map small_signed) (sym (literal-minus text long e))
