-- What is gathered of a list, item by item.
use Rattle.std.proofs.Common.{◌≡◌, ℕ, ◌+◌, ◌<◌, ◌≤◌, Bool, true, false, ◌&&◌, ◌||◌, Bor, List, [], ◌∷◌, ◌++◌, length, map, drop, get_or, refl, ap, sym, ◌∙◌, append_assoc, append-nil, arith}
use Rattle.std.specs.List.{list_all}
use Rattle.std.proofs.lemmas.List.{at_drop_more, at_drop_all}
use Rattle.nv_asm.specs.inner.Views.{operand_texts}

abbrev pub Gathers : {X A : Type 0} → (List X → List A) → (X → List A) → Type 0
Gathers {X = X} g h = (x : X) (xs : List X) → g (x ∷ xs) ≡ h x ++ g xs

pub rest-more : {X A : Type 0} (g : List X → List A) (h : X → List A) → Gathers g h → (before more : List A) (xs : List X) (i : ℕ) (d : X) → i < length xs
    → more ≡ h (get_or xs i d) → (before ++ more) ++ g (drop (i + 1) xs) ≡ before ++ g (drop i xs)
rest-more g h step before more xs i d inside e =
    append_assoc before more (g (drop (i + 1) xs)) ∙ ap (λ m. before ++ (m ++ g (drop (i + 1) xs))) e
    ∙ ap (λ r. before ++ r) (sym (at_drop_more g xs i d inside ∙ step (get_or xs i d) (drop (i + 1) xs)))

pub rest-end : {X A : Type 0} (g : List X → List A) → g [] ≡ [] → (before : List A) (xs : List X) (i : ℕ) → length xs ≤ i → before ≡ before ++ g (drop i xs)
rest-end g none before xs i past = sym (ap (λ r. before ++ r) (at_drop_all g xs i past ∙ none) ∙ append-nil before)

abbrev pub Tests : {X : Type 0} → (List X → Bool) → (X → Bool) → Type 0
Tests {X = X} g h = (x : X) (xs : List X) → g (x ∷ xs) ≡ (h x || g xs)

pub test-here : {X : Type 0} (g : List X → Bool) (h : X → Bool) → Tests g h → (xs : List X) (i : ℕ) (d : X) → i < length xs → h (get_or xs i d) ≡ true → g (drop i xs) ≡ true
test-here g h step xs i d inside e = at_drop_more g xs i d inside ∙ step (get_or xs i d) (drop (i + 1) xs) ∙ ap (λ b. b || g (drop (i + 1) xs)) e

pub test-later : {X : Type 0} (g : List X → Bool) (h : X → Bool) → Tests g h → (xs : List X) (i : ℕ) (d : X) → i < length xs → h (get_or xs i d) ≡ false → g (drop i xs) ≡ g (drop (i + 1) xs)
test-later g h step xs i d inside e = at_drop_more g xs i d inside ∙ step (get_or xs i d) (drop (i + 1) xs) ∙ ap (λ b. b || g (drop (i + 1) xs)) e

pub test-end : {X : Type 0} (g : List X → Bool) → g [] ≡ false → (xs : List X) (i : ℕ) → length xs ≤ i → g (drop i xs) ≡ false
test-end g none xs i past = at_drop_all g xs i past ∙ none

abbrev pub none_given : Bor (List ℕ)
none_given = record { ref_ptr = (0, 0); now = [] }

abbrev all_from : (List ℕ → Bool) → List (Bor (List ℕ)) → Bool
all_from p xs = list_all p (operand_texts xs)

pub all-not : (p : List ℕ → Bool) (xs : List (Bor (List ℕ))) (i : ℕ) → i < length xs → p (get_or xs i none_given).now ≡ false → all_from p (drop i xs) ≡ false
all-not p xs i inside e = at_drop_more (all_from p) xs i none_given inside ∙ ap (λ b. b && all_from p (drop (i + 1) xs)) e

pub all-later : (p : List ℕ → Bool) (xs : List (Bor (List ℕ))) (i : ℕ) → i < length xs → p (get_or xs i none_given).now ≡ true → all_from p (drop i xs) ≡ all_from p (drop (i + 1) xs)
all-later p xs i inside e = at_drop_more (all_from p) xs i none_given inside ∙ ap (λ b. b && all_from p (drop (i + 1) xs)) e

pub all-end : (p : List ℕ → Bool) (xs : List (Bor (List ℕ))) (i : ℕ) → length xs ≤ i → all_from p (drop i xs) ≡ true
all-end p xs i past = at_drop_all (all_from p) xs i past

pub length-texts : {A : Type 0} (f : List ℕ → A) (xs : List (Bor (List ℕ))) → length (map f (operand_texts xs)) ≡ length xs
length-texts f [] = refl
length-texts f (x ∷ xs) = omega (arith, length-texts f xs)
