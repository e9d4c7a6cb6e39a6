-- A log with one more entry.
use Rattle.std.proofs.Common.{◌≡◌, sym, ap, subst, refl, ℕ, zero, suc, ◌<◌, ◌≤◌, ◌⊎◌, inl, inr, ⊎_elim, List, [], ◌∷◌, ◌++◌, length, take, Some, arith}
use Rattle.std.specs.Prelude.{slice_get}
use Rattle.std.proofs.lemmas.Option.{same_Some, slice_get_within}
use mathlib.Core.Option.{some, some-ne-none, some-injective}
use lib.ListN.{get_elem?}
use Rattle.nv_calls.specs.Calls.{Entry, Request, status_of}
use Rattle.nv_calls.specs.Logs.{IsLawful, MayFollow, InRange, IsLegal, Start, served, live_after, live_from, live_next, last_status}

pub at_more : {A : Type 0} (xs : List A) (e x : A) (i : ℕ) → slice_get (xs ++ e ∷ []) i ≡ Some x → (slice_get xs i ≡ Some x) ⊎ ((i ≡ length xs) × (e ≡ x))
at_more [] e x zero h = inr (refl, same_Some e x h)
at_more [] e x (suc i) h = cc
at_more (y ∷ ys) e x zero h = inl h
at_more (y ∷ ys) e x (suc i) h = ⊎_elim (λ (q : slice_get ys i ≡ Some x). inl q) (λ (q : (i ≡ length ys) × (e ≡ x)). inr (ap suc q.0, q.1)) (at_more ys e x i h)

pub take_left : {A : Type 0} (xs ys : List A) (i : ℕ) → i ≤ length xs → take i (xs ++ ys) ≡ take i xs
take_left xs ys zero h = refl
take_left [] ys (suc i) h = absurd (omega arith)
take_left (x ∷ xs) ys (suc i) h = ap (λ z. x ∷ z) (take_left xs ys i (omega arith))

pub take_whole : {A : Type 0} (xs ys : List A) → take (length xs) (xs ++ ys) ≡ xs
take_whole [] ys = refl
take_whole (x ∷ xs) ys = ap (λ z. x ∷ z) (take_whole xs ys)

pub lawful_none : IsLawful []
lawful_none i e h = cc

pub legal_none : (s : Start) → IsLegal s []
legal_none s i e h = cc

pub lawful_more : (log : List Entry) (e : Entry) → IsLawful log → MayFollow (length log) (live_after log) e → IsLawful (log ++ e ∷ [])
lawful_more log e h m i x f = ⊎_elim
    (λ (q : slice_get log i ≡ Some x). let w = slice_get_within log i x q in subst (λ (z : List Entry). MayFollow i (live_after z) x) (sym (take_left log (e ∷ []) i (omega arith))) (h i x q))
    (λ (q : (i ≡ length log) × (e ≡ x)). subst (λ (z : Entry). MayFollow i (live_after (take i (log ++ e ∷ []))) z) q.1 (subst (λ (k : ℕ). MayFollow k (live_after (take k (log ++ e ∷ []))) e) (sym q.0) (subst (λ (z : List Entry). MayFollow (length log) (live_after z) e) (sym (take_whole log (e ∷ []))) m)))
    (at_more log e x i f)

pub legal_more : (s : Start) (log : List Entry) (c : Request) → IsLegal s log → IsLegal s (log ++ served s log c ∷ [])
legal_more s log c h i x f = let e : Entry = served s log c in ⊎_elim
    (λ (q : slice_get log i ≡ Some x). let w = slice_get_within log i x q in subst (λ (z : List Entry). x ≡ served s z x.call) (sym (take_left log (e ∷ []) i (omega arith))) (h i x q))
    (λ (q : (i ≡ length log) × (e ≡ x)). subst (λ (z : Entry). z ≡ served s (take i (log ++ e ∷ [])) z.call) q.1 (subst (λ (k : ℕ). e ≡ served s (take k (log ++ e ∷ [])) c) (sym q.0) (subst (λ (z : List Entry). e ≡ served s z c) (sym (take_whole log (e ∷ []))) refl)))
    (at_more log e x i f)

live_last : (live : List ℕ) (log : List Entry) (e : Entry) → live_from live (log ++ e ∷ []) ≡ live_next (live_from live log) e
live_last live [] e = refl
live_last live (x ∷ xs) e = live_last (live_next live x) xs e

pub live_more : (log : List Entry) (e : Entry) → live_after (log ++ e ∷ []) ≡ live_next (live_after log) e
live_more log e = live_last (100 ∷ []) log e

pub status_more : (log : List Entry) (e : Entry) → last_status (log ++ e ∷ []) ≡ status_of e.call
status_more [] e = refl
status_more (x ∷ []) e = refl
status_more (x ∷ y ∷ ys) e = status_more (y ∷ ys) e

-- the first entries of a lawful log are lawful
pub at_prefix : {A : Type 0} (k : ℕ) (xs : List A) (i : ℕ) (x : A) → slice_get (take k xs) i ≡ Some x → (slice_get xs i ≡ Some x) × (take i (take k xs) ≡ take i xs)
at_prefix zero xs i x h = cc
at_prefix (suc k) [] i x h = cc
at_prefix (suc k) (y ∷ ys) zero x h = (h, refl)
at_prefix (suc k) (y ∷ ys) (suc i) x h = let r = at_prefix k ys i x h in (r.0, ap (λ z. y ∷ z) r.1)

pub lawful_take : (log : List Entry) (k : ℕ) → IsLawful log → IsLawful (take k log)
lawful_take log k h i x f = let r = at_prefix k log i x f in subst (λ (z : List Entry). MayFollow i (live_after z) x) (sym r.1) (h i x r.0)

has : {A : Type 0} (xs : List A) (i : ℕ) → i < length xs → (x : A) × (slice_get xs i ≡ Some x)
has [] i h = absurd (omega arith)
has (x ∷ xs) zero h = (x, refl)
has (x ∷ xs) (suc i) h = has xs i (omega arith)

few_by : (log : List Entry) (n : ℕ) → IsLawful log → n ≡ length log → n ≤ 500000000
few_by log zero h e = omega arith
few_by log (suc n) h e = let x = has log n (omega arith) in let m = (h n x.0 x.1).few in omega arith

pub lawful_few : (log : List Entry) → IsLawful log → length log ≤ 500000000
lawful_few log h = few_by log (length log) h refl

pub slice_some : {A : Type 0} (xs : List A) (i : ℕ) (x : A) → get_elem? xs i ≡ some x → slice_get xs i ≡ Some x
slice_some [] i x h = absurd (some-ne-none x (sym h))
slice_some (y ∷ ys) zero x h = ap (λ z. Some z) (some-injective y x h)
slice_some (y ∷ ys) (suc i) x h = slice_some ys i x h

pub lawful_range : (log : List Entry) (i : ℕ) (e : Entry) → IsLawful log → get_elem? log i ≡ some e → InRange e
lawful_range log i e h f = (h i e (slice_some log i e f)).range
