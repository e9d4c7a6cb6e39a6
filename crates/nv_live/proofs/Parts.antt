-- The first of the parts of some bytes, and its line.
use Rattle.std.proofs.Common.{◌≡◌, ℕ, suc, ◌-◌, ◌<◌, ◌≤◌, min, Bool, true, false, cond, nat_le, List, [], ◌∷◌, ◌++◌, length, take, drop, flat_map, refl, sym, ap, ◌∙◌, arith, lit<}
use Rattle.std.specs.List.{onto_first}
use Rattle.std.proofs.lemmas.Bool.Decides.{nat_tests}
use Rattle.std.proofs.lemmas.List.{take_all, drop_all, nil_from_length}
use Rattle.nv_live.specs.Lines.{parts_after, parts, line_with, lines_with}

-- what is left of a part after its first byte
rest-part : (most n : ℕ) (b : ℕ) (bs : List ℕ) (m : ℕ) → suc m ≡ n → (b ∷ take m bs) ∷ parts_after most most (drop m bs) ≡ take n (b ∷ bs) ∷ parts_after most most (drop n (b ∷ bs))
rest-part most n b bs m e = ap (λ k. take k (b ∷ bs) ∷ parts_after most most (drop k (b ∷ bs))) e

parts_after-none : (most n : ℕ) → parts_after most n [] ≡ []
unfolding parts_after
parts_after-none most n = refl

alone : (most m b : ℕ) → (b ∷ []) ∷ [] ≡ (b ∷ take m []) ∷ parts_after most most (drop m [])
alone most m b =
    let front : take m [] ≡ [] = take_all m [] (omega arith) in
    let back : drop m [] ≡ [] = drop_all m [] (omega arith) in
    sym (ap (λ t. (b ∷ t) ∷ parts_after most most (drop m [])) front ∙ ap (λ t. (b ∷ []) ∷ parts_after most most t) back ∙ ap (λ t. (b ∷ []) ∷ t) (parts_after-none most most))

first-part : (most n : ℕ) (bytes : List ℕ) → 0 < n → 0 < length bytes → parts_after most n bytes ≡ take n bytes ∷ parts_after most most (drop n bytes)
unfolding parts_after
first-part most n [] room some = absurd (omega arith)
first-part most n (b ∷ []) room some = step (nat_le n 1) refl where
  step : (x : Bool) → nat_le n 1 ≡ x → cond x ((b ∷ []) ∷ []) ((b ∷ []) ∷ []) ≡ take n (b ∷ []) ∷ parts_after most most (drop n (b ∷ []))
  step true e = let one : suc 0 ≡ n = grind (arith, nat_tests) in rest-part most n b [] 0 one
  step false e = let more : suc (n - 1) ≡ n = grind (arith, nat_tests) in alone most (n - 1) b ∙ rest-part most n b [] (n - 1) more
first-part most n (b ∷ c ∷ cs) room some = step (nat_le n 1) refl (λ few. first-part most (n - 1) (c ∷ cs) few (omega arith)) where
  step : (x : Bool) → nat_le n 1 ≡ x → (0 < n - 1 → parts_after most (n - 1) (c ∷ cs) ≡ take (n - 1) (c ∷ cs) ∷ parts_after most most (drop (n - 1) (c ∷ cs)))
      → cond x ((b ∷ []) ∷ parts_after most most (c ∷ cs)) (onto_first b (parts_after most (n - 1) (c ∷ cs))) ≡ take n (b ∷ c ∷ cs) ∷ parts_after most most (drop n (b ∷ c ∷ cs))
  step true e later = let one : suc 0 ≡ n = grind (arith, nat_tests) in rest-part most n b (c ∷ cs) 0 one
  step false e later =
      let more : suc (n - 1) ≡ n = grind (arith, nat_tests) in
      let few : 0 < n - 1 = grind (arith, nat_tests) in
      ap (onto_first b) (later few) ∙ rest-part most n b (c ∷ cs) (n - 1) more

take-min : (bytes : List ℕ) (mid most : ℕ) → mid ≡ min (length bytes) most → (take mid bytes ≡ take most bytes)
take-min bytes mid most e = step (nat_le (length bytes) most) refl where
  step : (x : Bool) → nat_le (length bytes) most ≡ x → take mid bytes ≡ take most bytes
  step true h =
      let all : length bytes ≤ most = grind (arith, nat_tests) in
      let past : length bytes ≤ mid = omega arith in
      take_all mid bytes past ∙ sym (take_all most bytes all)
  step false h =
      let long : most < length bytes = grind (arith, nat_tests) in
      let same : mid ≡ most = omega arith in
      ap (λ k. take k bytes) same

drop-min : (bytes : List ℕ) (mid most : ℕ) → mid ≡ min (length bytes) most → (drop mid bytes ≡ drop most bytes)
drop-min bytes mid most e = step (nat_le (length bytes) most) refl where
  step : (x : Bool) → nat_le (length bytes) most ≡ x → drop mid bytes ≡ drop most bytes
  step true h =
      let all : length bytes ≤ most = grind (arith, nat_tests) in
      let past : length bytes ≤ mid = omega arith in
      drop_all mid bytes past ∙ sym (drop_all most bytes all)
  step false h =
      let long : most < length bytes = grind (arith, nat_tests) in
      let same : mid ≡ most = omega arith in
      ap (λ k. drop k bytes) same

pub lines-first : (head bytes part later : List ℕ) (mid : ℕ) → 0 < length bytes → mid ≡ min (length bytes) 2000 → part ≡ take mid bytes → later ≡ drop mid bytes
    → line_with head part ++ lines_with head later ≡ lines_with head bytes
lines-first head bytes part later mid some few front back =
    let whole : parts 2000 bytes ≡ take 2000 bytes ∷ parts 2000 (drop 2000 bytes) = first-part 2000 2000 bytes (lit< tt) some in
    ap (λ t. line_with head t ++ lines_with head later) (front ∙ take-min bytes mid 2000 few)
    ∙ ap (λ t. line_with head (take 2000 bytes) ++ lines_with head t) (back ∙ drop-min bytes mid 2000 few)
    ∙ sym (ap (flat_map (line_with head)) whole)

pub lines-none : (head bytes : List ℕ) → length bytes ≡ 0 → [] ≡ lines_with head bytes
lines-none head bytes e = sym (ap (lines_with head) (nil_from_length bytes e) ∙ ap (flat_map (line_with head)) (parts_after-none 2000 2000))
