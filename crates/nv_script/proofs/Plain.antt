-- Plain input as what comes: its limits, its order, and its bytes.
use Rattle.std.proofs.Common.{◌≡◌, ℕ, ◌+◌, ◌-◌, ◌<◌, ◌==◌, ◌&&◌, ◌||◌, Bool, true, false, cond, nat_lt, nat_le, List, [], ◌∷◌, ◌++◌, Ok, length, map, flat_map, refl, ap, ◌∙◌, arith}
use Rattle.std.specs.List.{onto_first, concat, list_all}
use Rattle.std.proofs.lemmas.Bool.{and_parts, and_from, or_parts}
use Rattle.std.proofs.lemmas.Bool.Decides.{nat_tests}
use Rattle.std.proofs.lemmas.List.Folds.{list_all-append, concat-append}
use Rattle.nv_script.specs.Arrivals.{Input, InputEnd, is_arrival}
use Rattle.nv_script.specs.Order.{nothing_came, onward, after, are_orderly}
use Rattle.nv_script.specs.Pieces.{cut_after, pieces, input_of}
use Rattle.nv_script.proofs.Orderly.{after-append, after-one}

-- ---- the bytes

concat-onto : (b : ℕ) (parts : List (List ℕ)) → concat (onto_first b parts) ≡ b ∷ concat parts
concat-onto b [] = refl
concat-onto b (part ∷ parts) = refl

concat-cut : (most n : ℕ) (bytes : List ℕ) → concat (cut_after most n bytes) ≡ bytes
unfolding cut_after
concat-cut most n [] = refl
concat-cut most n (b ∷ bs) = step ((b == 10) || nat_le n 1) (concat-cut most most bs) (concat-cut most (n - 1) bs) where
  step : (x : Bool) → concat (cut_after most most bs) ≡ bs → concat (cut_after most (n - 1) bs) ≡ bs
      → concat (cond x ((b ∷ []) ∷ cut_after most most bs) (onto_first b (cut_after most (n - 1) bs))) ≡ b ∷ bs
  step true anew on = ap (λ later. b ∷ later) anew
  step false anew on = concat-onto b (cut_after most (n - 1) bs) ∙ ap (λ later. b ∷ later) on

pub plain_bytes : (most : ℕ) (reads : List (List ℕ)) → concat (flat_map (pieces most) reads) ≡ concat reads
plain_bytes most [] = refl
plain_bytes most (bytes ∷ reads) =
    concat-append (pieces most bytes) (flat_map (pieces most) reads) ∙ ap (λ t. t ++ concat (flat_map (pieces most) reads)) (concat-cut most most bytes)
    ∙ ap (λ t. bytes ++ t) (plain_bytes most reads)

-- ---- the limits

abbrev is_within : ℕ → List ℕ → Bool
is_within most part = nat_lt 0 (length part) && nat_le (length part) most

-- the first has at most n bytes, and the others as many as may be
abbrev fit : ℕ → ℕ → List (List ℕ) → Bool
fit most n [] = true
fit most n (part ∷ parts) = is_within n part && list_all (is_within most) parts

fit-all : (most : ℕ) (parts : List (List ℕ)) → fit most most parts ≡ true → list_all (is_within most) parts ≡ true
fit-all most [] h = refl
fit-all most (part ∷ parts) h = h

one-within : (n b : ℕ) → 0 < n → is_within n (b ∷ []) ≡ true
one-within n b some = grind (arith, nat_tests)

more-within : (n b : ℕ) (part : List ℕ) → 1 < n → is_within (n - 1) part ≡ true → is_within n (b ∷ part) ≡ true
more-within n b part some h =
    let parts = and_parts (nat_lt 0 (length part)) (nat_le (length part) (n - 1)) h in
    let few = parts.1 in
    let long : length (b ∷ part) ≡ length part + 1 = omega arith in
    let low : nat_lt 0 (length (b ∷ part)) ≡ true = rw long (grind (arith, nat_tests)) in
    let high : nat_le (length (b ∷ part)) n ≡ true = rw long (grind (arith, nat_tests)) in
    and_from _ _ low high

onto-fit : (most n b : ℕ) (parts : List (List ℕ)) → 1 < n → fit most (n - 1) parts ≡ true → fit most n (onto_first b parts) ≡ true
onto-fit most n b [] some h = and_from _ _ (one-within n b (omega arith)) refl
onto-fit most n b (part ∷ parts) some h =
    let both = and_parts (is_within (n - 1) part) (list_all (is_within most) parts) h in
    and_from _ _ (more-within n b part some both.0) both.1

cut-fit : (most n : ℕ) (bytes : List ℕ) → 0 < most → 0 < n → fit most n (cut_after most n bytes) ≡ true
unfolding cut_after
cut-fit most n [] room some = refl
cut-fit most n (b ∷ bs) room some = step ((b == 10) || nat_le n 1) refl (cut-fit most most bs room room) (λ more. cut-fit most (n - 1) bs room more) where
  step : (x : Bool) → ((b == 10) || nat_le n 1) ≡ x → fit most most (cut_after most most bs) ≡ true → (0 < n - 1 → fit most (n - 1) (cut_after most (n - 1) bs) ≡ true)
      → fit most n (cond x ((b ∷ []) ∷ cut_after most most bs) (onto_first b (cut_after most (n - 1) bs))) ≡ true
  step true e anew on = and_from _ _ (one-within n b some) (fit-all most (cut_after most most bs) anew)
  step false e anew on =
      let last = (or_parts (b == 10) (nat_le n 1) e).1 in
      let more : 1 < n = grind (arith, nat_tests) in
      onto-fit most n b (cut_after most (n - 1) bs) more (on (omega arith))

parts-within : (most : ℕ) (reads : List (List ℕ)) → 0 < most → list_all (is_within most) (flat_map (pieces most) reads) ≡ true
parts-within most [] room = refl
parts-within most (bytes ∷ reads) room =
    list_all-append (is_within most) (pieces most bytes) (flat_map (pieces most) reads)
    ∙ and_from _ _ (fit-all most (pieces most bytes) (cut-fit most most bytes room room)) (parts-within most reads room)

are-arrivals : (parts : List (List ℕ)) → list_all (is_within 2000) parts ≡ true → list_all is_arrival (map Input parts) ≡ true
unfolding is_arrival
are-arrivals [] h = refl
are-arrivals (part ∷ parts) h = let both = and_parts (is_within 2000 part) (list_all (is_within 2000) parts) h in and_from _ _ both.0 (are-arrivals parts both.1)

pub plain_limits : (reads : List (List ℕ)) → list_all is_arrival (input_of 2000 reads) ≡ true
plain_limits reads = are-arrivals (flat_map (pieces 2000) reads) (parts-within 2000 reads (omega arith))

-- ---- the order

input-after : (clients : ℕ) (parts : List (List ℕ)) → after (map Input parts) (nothing_came clients) ≡ Ok (nothing_came clients)
unfolding after
input-after clients [] = refl
input-after clients (part ∷ parts) = input-after clients parts

pub plain_order : (clients most : ℕ) (reads : List (List ℕ)) → are_orderly clients (input_of most reads ++ InputEnd ∷ []) ≡ true
plain_order clients most reads =
    let all = after-append (input_of most reads) (InputEnd ∷ []) (nothing_came clients)
    ∙ ap (λ r. onward r (λ c. after (InputEnd ∷ []) c)) (input-after clients (flat_map (pieces most) reads)) ∙ after-one InputEnd (nothing_came clients) in
    rw all refl
