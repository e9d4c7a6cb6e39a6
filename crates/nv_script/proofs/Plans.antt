-- Lengths to hand over at, with one more that a script can have.
use Rattle.std.proofs.Common.{◌≡◌, ℕ, ◌+◌, ◌==◌, ◌<◌, true, false, not, nat_lt, List, [], ◌∷◌, ◌++◌, length, length-append, refl, sym, ◌∙◌, arith}
use Rattle.std.specs.List.{list_all}
use Rattle.std.proofs.lemmas.Bool.{and_parts, and_from, or_parts}
use Rattle.std.proofs.lemmas.Bool.Decides.{nat_tests}
use Rattle.std.proofs.lemmas.List.Folds.{list_all-append, list_any-append}
use Rattle.nv_script.specs.Entry.{is_hand}
use Rattle.nv_script.specs.Scripts.{has_hand, differ, are_hands}
use Rattle.nv_script.specs.HandLines.{can_plan}
use Rattle.nv_script.proofs.Sound.{hands-keep, are_hands-from, hands-more, same_length, not_true}

-- a script can have one more, and this is one of those that it can have
pub record CanPlan (n : ℕ) (hands : List ℕ) : Type 0 where
  pub within : is_hand n ≡ true
  pub few : nat_lt (length hands) 8 ≡ true
  pub new : has_hand n hands ≡ false

pub can_plan-parts : (n : ℕ) (hands : List ℕ) → can_plan n hands ≡ true → CanPlan n hands
can_plan-parts n hands can =
    let parts = and_parts (is_hand n) _ can in
    let rest = and_parts (nat_lt (length hands) 8) (not (has_hand n hands)) parts.1 in
    record { within = parts.0; few = rest.0; new = not_true (has_hand n hands) rest.1 }

-- with it they are lengths that a script can have
pub are_hands-more : (hands : List ℕ) (n : ℕ) → are_hands hands ≡ true → can_plan n hands ≡ true → are_hands (hands ++ n ∷ []) ≡ true
are_hands-more hands n are can =
    let parts = can_plan-parts n hands can in
    let room : length hands < 8 = grind (arith, nat_tests, parts.few) in
    are_hands-from (hands ++ n ∷ []) (hands-more hands n (hands-keep hands are) room parts.within parts.new)

-- ---- one of such lengths, behind those before it

differ-apart : (xs : List ℕ) (n : ℕ) (ys : List ℕ) → differ (xs ++ n ∷ ys) ≡ true → has_hand n xs ≡ false
differ-apart [] n ys apart = refl
differ-apart (x ∷ xs) n ys apart =
    let parts = and_parts (not (has_hand x (xs ++ n ∷ ys))) (differ (xs ++ n ∷ ys)) apart in
    let none : has_hand x (xs ++ n ∷ ys) ≡ false = not_true (has_hand x (xs ++ n ∷ ys)) parts.0 in
    let both = or_parts (has_hand x xs) (has_hand x (n ∷ ys)) (sym (list_any-append (λ (k : ℕ). k == x) xs (n ∷ ys)) ∙ none) in
    let other = or_parts (n == x) (has_hand x ys) both.1 in
    let here : (x == n) ≡ false = same_length n x other.0 in
    let before : has_hand n xs ≡ false = differ-apart xs n ys parts.1 in
    rw (here, before) refl

pub can_plan-next : (hands : List ℕ) (n : ℕ) (later : List ℕ) → are_hands (hands ++ n ∷ later) ≡ true → can_plan n hands ≡ true
can_plan-next hands n later are =
    let keep = hands-keep (hands ++ n ∷ later) are in
    let sound = and_parts (list_all is_hand hands) (list_all is_hand (n ∷ later)) (sym (list_all-append is_hand hands (n ∷ later)) ∙ keep.sound) in
    let within = and_parts (is_hand n) (list_all is_hand later) sound.1 in
    let size : length (hands ++ n ∷ later) ≡ length hands + length (n ∷ later) = length-append hands (n ∷ later) in
    let fewer : length hands < 8 = omega (arith, keep.few) in
    let few : nat_lt (length hands) 8 ≡ true = grind (arith, nat_tests) in
    let new : has_hand n hands ≡ false = differ-apart hands n later keep.apart in
    and_from _ _ within.0 (and_from _ _ few (rw new refl))
