-- Texts cut at a byte.
use Rattle.std.proofs.Common.{◌≡◌, ℕ, zero, suc, ◌+◌, ◌-◌, ◌<◌, ◌≤◌, Bool, true, false, not, cond, List, [], ◌∷◌, length, take, drop, Option, unwrap_or, refl, sym, ap, ◌∙◌, arith, length-drop}
use Rattle.std.specs.List.{prefix_len, onto_first, slice_split}
use Rattle.std.proofs.lemmas.List.{drop-drop, take_all, take_rest}
use Rattle.std.proofs.lemmas.List.Splits.{slice_split_first}
use Rattle.nv_bytes.specs.Fields.{without_first}
use Rattle.nv_bytes.specs.Lines.{is_newline, lines, prefix, rest_after}

split-none : (p : ℕ → Bool) (text : List ℕ) → length text ≤ prefix_len (λ b. not (p b)) text → slice_split p text ≡ text ∷ []
split-none p [] all = refl
split-none p (b ∷ bs) all = step (p b) refl all (split-none p bs) where
  step : (x : Bool) → p b ≡ x → length (b ∷ bs) ≤ cond (not x) (1 + prefix_len (λ b. not (p b)) bs) 0 → (length bs ≤ prefix_len (λ b. not (p b)) bs → slice_split p bs ≡ bs ∷ [])
      → cond x ([] ∷ slice_split p bs) (onto_first b (slice_split p bs)) ≡ (b ∷ bs) ∷ []
  step true e long rest = absurd (omega arith)
  step false e long rest = ap (onto_first b) (rest (omega arith))

-- a text without the byte is one part
pub split-last : (p : ℕ → Bool) (text part back : List ℕ) (n : ℕ) → n ≡ prefix_len (λ b. not (p b)) text → part ≡ take n text → back ≡ drop n text → length back < 1 → slice_split p text ≡ part ∷ []
split-last p text part back n e first rest none =
    let long = length-drop n text in
    let size : length back ≡ length (drop n text) = ap length rest in
    let whole : part ≡ text = first ∙ take_all n text (omega (arith, long, size)) in
    split-none p text (omega (arith, long, size)) ∙ ap (λ x. x ∷ []) (sym whole)

-- the first part, and the rest after its byte
pub split-more : (p : ℕ → Bool) (text part back : List ℕ) (n : ℕ) → n ≡ prefix_len (λ b. not (p b)) text → part ≡ take n text → back ≡ drop n text → 1 ≤ length back
    → slice_split p text ≡ part ∷ slice_split p (take (length back - 1) (drop 1 back))
split-more p text part back n e first rest some =
    let long = length-drop n text in
    let size : length back ≡ length (drop n text) = ap length rest in
    let cut : slice_split p text ≡ take (prefix_len (λ b. not (p b)) text) text ∷ slice_split p (drop (prefix_len (λ b. not (p b)) text + 1) text) = slice_split_first p text 0 (omega (arith, long, size)) in
    let after : drop (n + 1) text ≡ take (length back - 1) (drop 1 back) = sym (drop-drop 1 n text) ∙ ap (drop 1) (sym rest) ∙ sym (take_rest back 1) in
    cut ∙ ap (λ k. take k text ∷ slice_split p (drop (k + 1) text)) (sym e)
    ∙ ap (λ x. x ∷ slice_split p (drop (n + 1) text)) (sym first) ∙ ap (λ r. part ∷ slice_split p r) after

-- the first line, and the rest after its newline
lines-first : (b : ℕ) (bs : List ℕ) → let n : ℕ = prefix_len (λ c. not (is_newline c)) (b ∷ bs) in lines (b ∷ bs) ≡ take n (b ∷ bs) ∷ lines (drop (suc n) (b ∷ bs))
unfolding lines
lines-first b [] =
    elim (is_newline b) as (λ x. cond x ([] ∷ lines []) (onto_first b (lines [])) ≡ take (cond (not x) (1 + 0) 0) (b ∷ []) ∷ lines (drop (suc (cond (not x) (1 + 0) 0)) (b ∷ [])))
    [ true ↦ refl | false ↦ refl ]
lines-first b (c ∷ cs) =
    let m : ℕ = prefix_len (λ c. not (is_newline c)) (c ∷ cs) in
    let one : suc m ≡ 1 + m = omega arith in
    let later : onto_first b (lines (c ∷ cs)) ≡ take (1 + m) (b ∷ c ∷ cs) ∷ lines (drop (suc (1 + m)) (b ∷ c ∷ cs)) =
    ap (onto_first b) (lines-first c cs) ∙ ap (λ k. take k (b ∷ c ∷ cs) ∷ lines (drop (suc k) (b ∷ c ∷ cs))) one in
    elim (is_newline b) as (λ x. cond x ([] ∷ lines (c ∷ cs)) (onto_first b (lines (c ∷ cs))) ≡ take (cond (not x) (1 + m) 0) (b ∷ c ∷ cs) ∷ lines (drop (suc (cond (not x) (1 + m) 0)) (b ∷ c ∷ cs)))
    [ true ↦ refl | false ↦ later ]

after-first : (n : ℕ) (text : List ℕ) → drop (suc n) text ≡ unwrap_or (without_first (drop n text)) []
after-first zero [] = refl
after-first zero (b ∷ bs) = refl
after-first (suc n) [] = refl
after-first (suc n) (b ∷ bs) = after-first n bs

pub lines-cut : (text line : List ℕ) (rest : Option (List ℕ)) → 0 < length text → line ≡ prefix (λ b. not (is_newline b)) text → rest ≡ without_first (rest_after (λ b. not (is_newline b)) text)
    → lines text ≡ line ∷ lines (unwrap_or rest [])
lines-cut [] line rest some e f = absurd (omega arith)
lines-cut (b ∷ bs) line rest some e f =
    let n : ℕ = prefix_len (λ c. not (is_newline c)) (b ∷ bs) in
    lines-first b bs ∙ ap (λ later. take n (b ∷ bs) ∷ lines later) (after-first n (b ∷ bs)) ∙ ap (λ later. take n (b ∷ bs) ∷ lines (unwrap_or later [])) (sym f) ∙ ap (λ l. l ∷ lines (unwrap_or rest [])) (sym e)

pub lines-none : (text : List ℕ) → length text ≡ 0 → lines text ≡ []
unfolding lines
lines-none [] e = refl
lines-none (b ∷ bs) e = absurd (omega (arith, e))
