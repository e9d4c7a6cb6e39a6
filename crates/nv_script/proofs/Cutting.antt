-- The first piece of what a read gave.
use Rattle.std.proofs.Common.{◌≡◌, ℕ, zero, suc, ◌+◌, ◌-◌, ◌<◌, ◌≤◌, ◌==◌, ◌||◌, not, Bool, true, false, cond, nat_lt, nat_le, List, [], ◌∷◌, length, take, drop, refl, sym, ap, ◌∙◌, arith}
use Rattle.std.specs.List.{onto_first, prefix_len}
use Rattle.std.proofs.lemmas.Bool.Decides.{nat_tests}
use Rattle.nv_script.specs.Pieces.{cut_after, pieces}

-- how many bytes the first piece has
abbrev reach : ℕ → List ℕ → ℕ
reach n [] = 0
reach n (b ∷ bs) = cond ((b == 10) || nat_le n 1) 1 (suc (reach (n - 1) bs))

cut-first : (most n : ℕ) (bytes : List ℕ) → 0 < length bytes → cut_after most n bytes ≡ take (reach n bytes) bytes ∷ cut_after most most (drop (reach n bytes) bytes)
unfolding cut_after
cut-first most n [] some = absurd (omega arith)
cut-first most n (b ∷ []) some = step ((b == 10) || nat_le n 1) where
  step : (x : Bool) → cond x ((b ∷ []) ∷ []) (onto_first b []) ≡ take (cond x 1 (suc 0)) (b ∷ []) ∷ cut_after most most (drop (cond x 1 (suc 0)) (b ∷ []))
  step true = refl
  step false = refl
cut-first most n (b ∷ c ∷ cs) some = step ((b == 10) || nat_le n 1) (cut-first most (n - 1) (c ∷ cs) (omega arith)) where
  step : (x : Bool) → cut_after most (n - 1) (c ∷ cs) ≡ take (reach (n - 1) (c ∷ cs)) (c ∷ cs) ∷ cut_after most most (drop (reach (n - 1) (c ∷ cs)) (c ∷ cs))
      → cond x ((b ∷ []) ∷ cut_after most most (c ∷ cs)) (onto_first b (cut_after most (n - 1) (c ∷ cs)))
      ≡ take (cond x 1 (suc (reach (n - 1) (c ∷ cs)))) (b ∷ c ∷ cs) ∷ cut_after most most (drop (cond x 1 (suc (reach (n - 1) (c ∷ cs)))) (b ∷ c ∷ cs))
  step true later = refl
  step false later = ap (onto_first b) later

abbrev pub passed : List ℕ → ℕ
passed window = prefix_len (λ b. not (b == 10)) window

abbrev pub told : List ℕ → ℕ
told window = cond (nat_lt (passed window) (length window)) (passed window + 1) (passed window)

reach-told : (n : ℕ) (bytes : List ℕ) → 0 < n → reach n bytes ≡ told (take n bytes)
reach-told zero bytes some = absurd (omega arith)
reach-told (suc n) [] some = refl
reach-told (suc zero) (b ∷ bs) some = step (b == 10) refl where
  step : (x : Bool) → (b == 10) ≡ x → cond (x || true) 1 (suc (reach 0 bs)) ≡ cond (nat_lt (cond (not x) (1 + 0) 0) 1) (cond (not x) (1 + 0) 0 + 1) (cond (not x) (1 + 0) 0)
  step true e = refl
  step false e = refl
reach-told (suc (suc n)) (b ∷ bs) some = step (b == 10) (reach-told (suc n) bs (omega arith)) where
  step : (x : Bool) → reach (suc n) bs ≡ told (take (suc n) bs) →
      cond (x || nat_le (suc (suc n)) 1) 1 (suc (reach (suc (suc n) - 1) bs))
      ≡ cond (nat_lt (cond (not x) (1 + passed (take (suc n) bs)) 0) (length (b ∷ take (suc n) bs))) (cond (not x) (1 + passed (take (suc n) bs)) 0 + 1) (cond (not x) (1 + passed (take (suc n) bs)) 0)
  step true later = grind (arith, nat_tests)
  step false later = grind (arith, nat_tests)

-- the first piece by what a window of the bytes has before its newline
pub piece-cut : (most : ℕ) (bytes window : List ℕ) (before : ℕ) → 0 < length bytes → 0 < most → window ≡ take most bytes → before ≡ passed window
    → pieces most bytes ≡ take (cond (nat_lt before (length window)) (before + 1) before) bytes ∷ pieces most (drop (cond (nat_lt before (length window)) (before + 1) before) bytes)
piece-cut most bytes window before some room e f =
    let same : reach most bytes ≡ cond (nat_lt before (length window)) (before + 1) before =
    reach-told most bytes room ∙ ap told (sym e) ∙ ap (λ k. cond (nat_lt k (length window)) (k + 1) k) (sym f) in
    cut-first most most bytes some ∙ ap (λ k. take k bytes ∷ pieces most (drop k bytes)) same

pub piece-newline : (most : ℕ) (bytes window : List ℕ) (before : ℕ) → 0 < length bytes → 0 < most → window ≡ take most bytes → before ≡ passed window → before < length window
    → pieces most bytes ≡ take (before + 1) bytes ∷ pieces most (drop (before + 1) bytes)
piece-newline most bytes window before some room e f inside =
    let test : nat_lt before (length window) ≡ true = grind (arith, nat_tests) in
    rw test at (piece-cut most bytes window before some room e f)

pub piece-whole : (most : ℕ) (bytes window : List ℕ) (before : ℕ) → 0 < length bytes → 0 < most → window ≡ take most bytes → before ≡ passed window → length window ≤ before
    → pieces most bytes ≡ take before bytes ∷ pieces most (drop before bytes)
piece-whole most bytes window before some room e f past =
    let test : nat_lt before (length window) ≡ false = grind (arith, nat_tests) in
    rw test at (piece-cut most bytes window before some room e f)
