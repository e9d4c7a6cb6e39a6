-- Which connections are there: after one more, and after one is let go.
use Rattle.std.proofs.Common.{◌≡◌, ◌≢◌, ◌∙◌, sym, ap, refl, ℕ, zero, suc, ◌+◌, ◌<◌, ◌≤◌, Bool, true, false, ◌||◌, ◌==◌, List, [], ◌∷◌, ◌++◌, length, get_or, ⊎_elim, arith}
use Rattle.std.specs.Prelude.{slice_index, remove}
use Rattle.std.proofs.lemmas.Bool.{cases_lt}
use Rattle.std.proofs.lemmas.Bool.Decides.{nat_tests}
use Rattle.std.proofs.lemmas.List.Folds.{list_any-append, list_any_at}
use Rattle.std.proofs.lemmas.List.Edits.{length-remove, get_or-remove_below, get_or-remove_above}
use Rattle.nv_calls.specs.Tables.{Ascends}
use Rattle.nv_sockets.specs.Reserved.{is_there}

pub equal : (m n : ℕ) → m ≡ n → (m == n) ≡ true
equal m n e = grind (arith, nat_tests)

pub unequal : (m n : ℕ) → m ≢ n → (m == n) ≡ false
unequal m n e = grind (arith, nat_tests)

-- what is there isn't what isn't there
pub not_both : (b : Bool) → b ≡ true → b ≡ false → ⊥
not_both b t f = cc

pub there_at : (there : List ℕ) (p i : ℕ) → p < length there → slice_index there p ≡ i → is_there there i ≡ true
there_at there p i l e = list_any_at (λ (n : ℕ). n == i) there p 0 l (equal (get_or there p 0) i e)

or_left : (a b : Bool) → a ≡ true → (a || b) ≡ true
or_left a b e = ap (λ (z : Bool). z || b) e

or_none : (a b c : Bool) → a ≡ false → b ≡ c → (a || b) ≡ c
or_none a b c e h = ap (λ (z : Bool). z || b) e ∙ h

pub none_there : (there : List ℕ) (i : ℕ) → ((p : ℕ) → p < length there → slice_index there p ≢ i) → is_there there i ≡ false
none_there [] i h = refl
none_there (n ∷ ns) i h = or_none (n == i) (is_there ns i) false (unequal n i (h 0 (omega arith))) (none_there ns i (λ p l. h (suc p) (omega (arith, l))))

or_true : (a b : Bool) → b ≡ true → (a || b) ≡ true
or_true true b e = refl
or_true false b e = e

pub there_left : (there : List ℕ) (k i : ℕ) → is_there there i ≡ true → is_there (there ++ k ∷ []) i ≡ true
there_left there k i h = list_any-append (λ (n : ℕ). n == i) there (k ∷ []) ∙ or_left (is_there there i) _ h

pub there_last : (there : List ℕ) (k i : ℕ) → k ≡ i → is_there (there ++ k ∷ []) i ≡ true
there_last there k i e = list_any-append (λ (n : ℕ). n == i) there (k ∷ []) ∙ or_true (is_there there i) _ (or_left (k == i) false (equal k i e))

cases_there : (b : Bool) (P : Type 0) → (b ≡ true → P) → (b ≡ false → P) → P
cases_there true P t f = t refl
cases_there false P t f = f refl

pub by_there : (there : List ℕ) (i : ℕ) (P : Type 0) → (is_there there i ≡ true → P) → (is_there there i ≡ false → P) → P
by_there there i P t f = cases_there (is_there there i) P t f

pub not_left : (there : List ℕ) (k i : ℕ) → is_there (there ++ k ∷ []) i ≡ false → is_there there i ≡ false
not_left there k i h = by_there there i (is_there there i ≡ false) (λ t. absurd (not_both _ (there_left there k i t) h)) (λ f. f)

-- the one that is let go is another one
pub there_removed : (there : List ℕ) (p i : ℕ) → p < length there → slice_index there p ≢ i → is_there there i ≡ true → is_there (remove there p) i ≡ true
there_removed [] p i l other h = absurd (omega (arith, l))
there_removed (n ∷ ns) zero i l other h = sym (or_none (n == i) (is_there ns i) (is_there ns i) (unequal n i other) refl) ∙ h
there_removed (n ∷ ns) (suc p) i l other h =
    cases_there (n == i) (is_there (n ∷ remove ns p) i ≡ true) (λ t. or_left (n == i) (is_there (remove ns p) i) t)
    (λ f. or_true (n == i) (is_there (remove ns p) i) (there_removed ns p i (omega (arith, l)) other (sym (or_none (n == i) (is_there ns i) (is_there ns i) f refl) ∙ h)))

from_removed : (there : List ℕ) (p i : ℕ) → p < length there → is_there (remove there p) i ≡ true → is_there there i ≡ true
from_removed [] p i l h = absurd (omega (arith, l))
from_removed (n ∷ ns) zero i l h = or_true (n == i) (is_there ns i) h
from_removed (n ∷ ns) (suc p) i l h =
    cases_there (n == i) (is_there (n ∷ ns) i ≡ true) (λ t. or_left (n == i) (is_there ns i) t)
    (λ f. or_true (n == i) (is_there ns i) (from_removed ns p i (omega (arith, l)) (sym (or_none (n == i) (is_there (remove ns p) i) (is_there (remove ns p) i) f refl) ∙ h)))

-- the others are there as they were
pub removed_same : (there : List ℕ) (p i j : ℕ) → p < length there → slice_index there p ≡ i → j ≢ i → is_there (remove there p) j ≡ is_there there j
removed_same there p i j l is other =
    by_there there j (is_there (remove there p) j ≡ is_there there j) (λ t. there_removed there p j l (λ e. other (sym e ∙ is)) t ∙ sym t)
    (λ f. by_there (remove there p) j (is_there (remove there p) j ≡ is_there there j) (λ t. absurd (not_both (is_there there j) (from_removed there p j l t) f)) (λ g. g ∙ sym f))

-- the numbers ascend, so that one stands there once
pub removed_gone : (n : ℕ) (there : List ℕ) (p i : ℕ) → Ascends n there → p < length there → slice_index there p ≡ i → is_there (remove there p) i ≡ false
removed_gone n there p i a l is = none_there (remove there p) i (λ q h e.
    let fewer = length-remove there p l in
    ⊎_elim
    (λ (below : q < p). let same = get_or-remove_below there p 0 q below l in let less = a.ordered q p 0 below l in omega (arith, same, less, is, e))
    (λ (above : p ≤ q). let same = get_or-remove_above there p 0 q above l in let more = a.ordered p (q + 1) 0 (omega (arith, above)) (omega (arith, h, fewer)) in omega (arith, same, more, is, e))
    (cases_lt q p))
