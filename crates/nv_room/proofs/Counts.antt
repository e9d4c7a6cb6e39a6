-- How many planned lengths are below a number.
use Rattle.std.proofs.Common.{◌≡◌, ℕ, zero, suc, ◌+◌, ◌<◌, ◌≤◌, List, [], ◌∷◌, length, refl, ap, sym, lt_of_not-le, arith}
use Rattle.std.specs.Prelude.{Bool, nat_lt, if◌then◌else◌}
use Rattle.std.proofs.lemmas.Bool.{lt-ltb, le-ltb}
use mathlib.Core.Logic.{dite}
use mathlib.Core.Option.{some, some-injective, some-ne-none}
use native.Mathlib.Decide.{dec_le}
use lib.ListN.{get_elem?}
use Rattle.nv_room.specs.Planned.{below}
use Rattle.nv_room.specs.Room.{Has}

-- what one number adds
abbrev adds : ℕ → ℕ → ℕ
adds k n = if nat_lt k n then 1 else 0

adds_one : (k n : ℕ) → k < n → adds k n ≡ 1
adds_one k n l = ap (λ (b : Bool). if b then 1 else 0) (lt-ltb k n l)

adds_none : (k n : ℕ) → n ≤ k → adds k n ≡ 0
adds_none k n l = ap (λ (b : Bool). if b then 1 else 0) (le-ltb k n l)

below_more : (k : ℕ) (ks : List ℕ) (n : ℕ) → below (k ∷ ks) n ≡ adds k n + below ks n
below_more k ks n = refl

pub below_most : (ks : List ℕ) (n : ℕ) → below ks n ≤ length ks
below_most [] n = omega arith
below_most (k ∷ ks) n = let a = below_more k ks n in let b = below_most ks n in dite (dec_le n k) (λ le. let e = adds_none k n le in omega arith) (λ gt. let e = adds_one k n (lt_of_not-le gt) in omega arith)

pub below_rises : (ks : List ℕ) (n : ℕ) → below ks n ≤ below ks (n + 1)
below_rises [] n = omega arith
below_rises (k ∷ ks) n = let a = below_more k ks n in let b = below_more k ks (n + 1) in let c = below_rises ks n in
    dite (dec_le n k) (λ le. let e = adds_none k n le in omega arith) (λ gt. let l : k < n = lt_of_not-le gt in let e = adds_one k n l in let f = adds_one k (n + 1) (omega arith) in omega arith)

-- one more is below the next number where the number is one of them
pub below_planned : (ks : List ℕ) (n : ℕ) → Has ks n → below ks n + 1 ≤ below ks (n + 1)
below_planned ks n h = there ks n h.0 h.1
  where
    there : (ks : List ℕ) (n i : ℕ) → get_elem? ks i ≡ some n → below ks n + 1 ≤ below ks (n + 1)
    there [] n i e = absurd (some-ne-none n (sym e))
    there (k ∷ ks) n zero e =
        let same : k ≡ n = some-injective k n e in
        let a = below_more k ks n in
        let b = below_more k ks (n + 1) in
        let c = below_rises ks n in
        let d = adds_none k n (omega arith) in
        let f = adds_one k (n + 1) (omega arith) in
        omega arith
    there (k ∷ ks) n (suc i) e = let a = below_more k ks n in let b = below_more k ks (n + 1) in let c = there ks n i e in
        dite (dec_le n k) (λ le. let d = adds_none k n le in omega arith) (λ gt. let l : k < n = lt_of_not-le gt in let d = adds_one k n l in let f = adds_one k (n + 1) (omega arith) in omega arith)
