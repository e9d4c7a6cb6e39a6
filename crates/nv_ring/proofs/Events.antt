-- The event that is due, and its words.
use Rattle.std.proofs.Common.{◌≡◌, ℕ, zero, suc, ◌+◌, ◌<◌, List, [], ◌∷◌, ◌++◌, map, length, get_or, take, sym, ap, ◌∙◌, subst, refl, Some, arith, length-take}
use Rattle.std.specs.Prelude.{slice_get}
use Rattle.std.proofs.lemmas.List.{take_more}
use Rattle.std.proofs.lemmas.Option.{same_Some}
use Rattle.nv_calls.specs.Calls.{Entry}
use Rattle.nv_words.specs.Spelling.{spell}

pub take_len : {A : Type 0} (xs : List A) (n : ℕ) → n ≡ length xs → take n xs ≡ xs
take_len {A} xs n h = subst (λ (k : ℕ). take k xs ≡ xs) (sym h) (all xs)
  where
    all : (xs : List A) → take (length xs) xs ≡ xs
    all [] = refl
    all (x ∷ xs) = ap (λ z. x ∷ z) (all xs)

-- the last event of a log stands in its last place
pub last_at : (log : List Entry) (n : ℕ) (x : Entry) → length log ≡ n + 1 → ((past : List Entry) (e : Entry) → log ≡ past ++ e ∷ [] → x ≡ e) → slice_get log n ≡ Some x
last_at [] n x long is = absurd (omega arith)
last_at (y ∷ []) zero x long is = ap Some (sym (is [] y refl))
last_at (y ∷ z ∷ zs) zero x long is = absurd (omega arith)
last_at (y ∷ ys) (suc n) x long is = last_at ys n x (omega arith) (λ past e h. is (y ∷ past) e (ap (λ (l : List Entry). y ∷ l) h))

-- the event in place n as it is spelt
pub spelt_at : (log : List Entry) (n : ℕ) (e : Entry) → slice_get log n ≡ Some e → get_or (map spell log) n [] ≡ spell e
spelt_at [] n e at = cc
spelt_at (x ∷ xs) zero e at = ap spell (same_Some x e at)
spelt_at (x ∷ xs) (suc n) e at = spelt_at xs n e at

-- all but the last, and the last
pub last_spelt : (log : List Entry) (n : ℕ) (e : Entry) → length log ≡ n + 1 → slice_get log n ≡ Some e → map spell log ≡ take n (map spell log) ++ spell e ∷ []
last_spelt [] n e long at = absurd (omega arith)
last_spelt (x ∷ []) zero e long at = ap (λ (z : Entry). spell z ∷ []) (same_Some x e at)
last_spelt (x ∷ y ∷ ys) zero e long at = absurd (omega arith)
last_spelt (x ∷ xs) (suc n) e long at = ap (λ z. spell x ∷ z) (last_spelt xs n e (omega arith) at)

-- one more word of the event is written
pub one_more : (wrote : List ℕ) (i w : ℕ) (s : List ℕ) → wrote ≡ take i s → i < length s → w ≡ get_or s i 0 → wrote ++ w ∷ [] ≡ take (i + 1) s
one_more wrote i w s is l at = (λ k. is k ++ at k ∷ []) ∙ sym (take_more s i 0 l)

pub as_long : (wrote : List ℕ) (i : ℕ) (s : List ℕ) → wrote ≡ take i s → i < length s → i ≡ length wrote
as_long wrote i s is l = sym (ap length is ∙ length-take i s ∙ (omega arith))
