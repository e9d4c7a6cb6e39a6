-- Counting what passes a test in the beginning of a list.
use Rattle.std.proofs.Common.{◌≡◌, ℕ, ◌+◌, ◌-◌, ◌%◌, ◌<◌, ◌≤◌, ◌≢◌, Bool, true, List, ◌++◌, length, take, drop, get_or, ap, arith, length-take}
use Rattle.std.specs.Prelude.{count_by, cond}
use Rattle.std.proofs.Math.Seq.{take-add}
use Rattle.std.proofs.lemmas.List.Sums.{sum_by-append, count_by-le-length, count_by_more_yes}
use Rattle.atomic_table.proofs.Lists.{one_turn}

-- none more than stand between
pub count_near : (p : ℕ → Bool) (xs : List ℕ) (a d : ℕ) → count_by p (take (a + d) xs) ≤ count_by p (take a xs) + d
count_near p xs a d =
    let split : count_by p (take (a + d) xs) ≡ count_by p (take a xs ++ take d (drop a xs)) = ap (count_by p) (take-add a d xs) in
    let parts = sum_by-append (λ (x : ℕ). cond (p x) 1 0) (take a xs) (take d (drop a xs)) in
    let few = count_by-le-length p (take d (drop a xs)) in
    let most = length-take d (drop a xs) in
    omega arith

pub count_grows : (p : ℕ → Bool) (xs : List ℕ) (a d : ℕ) → count_by p (take a xs) ≤ count_by p (take (a + d) xs)
count_grows p xs a d =
    let split : count_by p (take (a + d) xs) ≡ count_by p (take a xs ++ take d (drop a xs)) = ap (count_by p) (take-add a d xs) in
    let parts = sum_by-append (λ (x : ℕ). cond (p x) 1 0) (take a xs) (take d (drop a xs)) in
    omega arith

-- two that pass and stand less than n apart have different counts of those before them, modulo n
pub counts_apart : (p : ℕ → Bool) (xs : List ℕ) (n a b : ℕ) → a < b → b < a + n → a < length xs → p (get_or xs a 0) ≡ true → count_by p (take a xs) % n ≢ count_by p (take b xs) % n
counts_apart p xs n a b lt near within passes same =
    let d : ℕ = b - (a + 1) in
    let at : (a + 1) + d ≡ b = omega arith in
    let one = count_by_more_yes p xs a 0 within passes in
    let later : count_by p (take (a + 1) xs) ≤ count_by p (take b xs) = (let g = count_grows p xs (a + 1) d in let e : count_by p (take ((a + 1) + d) xs) ≡ count_by p (take b xs) = ap (λ (k : ℕ). count_by p (take k xs)) at in omega arith) in
    let close : count_by p (take b xs) ≤ count_by p (take (a + 1) xs) + d = (let g = count_near p xs (a + 1) d in let e : count_by p (take ((a + 1) + d) xs) ≡ count_by p (take b xs) = ap (λ (k : ℕ). count_by p (take k xs)) at in omega arith) in
    let i : ℕ = count_by p (take a xs) in
    let j : ℕ = count_by p (take b xs) in
    let eq : i ≡ j = one_turn i j n (omega arith) (omega arith) same in
    omega arith
