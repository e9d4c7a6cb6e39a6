-- The bytes of the generator, one more at a time.
use Rattle.std.proofs.Common.{◌≡◌, ◌∙◌, sym, ap, refl, ℕ, zero, suc, ◌+◌, ◌<◌, List, [], ◌∷◌, ◌++◌, length, take, set, arith}
use Rattle.std.proofs.lemmas.List.{take_more_set}
use Rattle.nv_kernel.specs.Serving.{next_random, high_byte, randoms, random_after}

after-suc : (n x : ℕ) → random_after (suc n) x ≡ next_random (random_after n x)
after-suc zero x = refl
after-suc (suc n) x = after-suc n (next_random x)

randoms-suc : (n x : ℕ) → randoms (suc n) x ≡ randoms n x ++ high_byte (random_after (suc n) x) ∷ []
randoms-suc zero x = refl
randoms-suc (suc n) x = ap (λ bs. high_byte (next_random x) ∷ bs) (randoms-suc n (next_random x))

pub after-more : (n x : ℕ) → random_after (n + 1) x ≡ next_random (random_after n x)
after-more n x = let on : n + 1 ≡ suc n = omega arith in ap (λ m. random_after m x) on ∙ after-suc n x

-- the bytes before with one more
pub randoms-more : (bytes : List ℕ) (i x b now : ℕ) → i < length bytes → take i bytes ≡ randoms i x → now ≡ random_after (i + 1) x → b ≡ high_byte now
    → take (i + 1) (set bytes i b) ≡ randoms (i + 1) x
randoms-more bytes i x b now inside prefix after is =
    let on : i + 1 ≡ suc i = omega arith in
    take_more_set bytes i b inside ∙ ap (λ bs. bs ++ b ∷ []) prefix
    ∙ ap (λ y. randoms i x ++ y ∷ []) (is ∙ ap high_byte (after ∙ ap (λ m. random_after m x) on))
    ∙ sym (randoms-suc i x) ∙ ap (λ m. randoms m x) (sym on)
