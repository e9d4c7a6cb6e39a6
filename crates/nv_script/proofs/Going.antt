-- Clients that have not sent all: what a search among their numbers finds, and what is left without one of them.
use Rattle.std.proofs.Common.{◌≡◌, ℕ, zero, suc, ◌<◌, ◌≤◌, ◌==◌, not, Bool, true, false, List, [], ◌∷◌, Result, Ok, Err, length, get_or, nat_lt, refl, sym, ap, ◌∙◌, arith, ◌⊎◌, inl, inr}
use Rattle.std.specs.List.{All, AllPairs, filter, remove}
use Rattle.std.specs.List.Sorted.{IsBinarySearchResult}
use Rattle.std.specs.Ordering.{nat_cmp}
use Rattle.std.proofs.lemmas.Bool.Decides.{nat_tests}
use Rattle.std.proofs.lemmas.Grind.{common_steps}
use Rattle.std.proofs.lemmas.List.Elements.{All-filter}
use Rattle.std.proofs.lemmas.List.Folds.{list_any_at, list_any_none}
use Rattle.std.proofs.lemmas.List.Kept.{AllPairs-filter}
use Rattle.std.proofs.lemmas.List.Sorted.{searched}
use Rattle.nv_script.specs.inner.Going.{AreGoing}
use Rattle.nv_script.specs.declared.arrival.ArrivalCause.{ArrivalCause}
use Rattle.nv_script.specs.Order.{Came, is_going, without, client_ended}

-- ---- a search

differs : (a n : ℕ) → (a < n) ⊎ (n < a) → (a == n) ≡ false
differs a n (inl below) = grind (arith, nat_tests)
differs a n (inr above) = grind (arith, nat_tests)

same : (a n : ℕ) → a ≡ n → (a == n) ≡ true
same a n e = grind (arith, nat_tests)

rises : (clients : ℕ) (going : List ℕ) → AreGoing clients going → (i j : ℕ) → i ≤ j → j < length going → get_or going i 0 ≤ get_or going j 0
rises clients going are i j before within = step (i == j) refl where
  step : (x : Bool) → (i == j) ≡ x → get_or going i 0 ≤ get_or going j 0
  step true e = let here : i ≡ j = grind (arith, nat_tests) in omega (arith, ap (λ (k : ℕ). get_or going k 0) here)
  step false e = let apart : i < j = grind (arith, nat_tests) in omega (arith, are.rising i j 0 apart within)

pub goes_there : (clients : ℕ) (going : List ℕ) (n at : ℕ) → AreGoing clients going → IsBinarySearchResult (λ y. nat_cmp y n) going (Ok at) → is_going n going ≡ true
goes_there clients going n at are found =
    let here = searched going n (Ok at) found (rises clients going are) in
    list_any_at (λ k. k == n) going at 0 here.0 (same (get_or going at 0) n here.1)

pub goes_nowhere : (clients : ℕ) (going : List ℕ) (n at : ℕ) → AreGoing clients going → IsBinarySearchResult (λ y. nat_cmp y n) going (Err at) → is_going n going ≡ false
goes_nowhere clients going n at are found =
    let gap = searched going n (Err at) found (rises clients going are) in
    list_any_none (λ k. k == n) going (λ k d within. step k d within gap.1 gap.2 (nat_lt k at) refl) where
      step : (k d : ℕ) → k < length going → ((k : ℕ) → k < at → get_or going k 0 < n) → ((k : ℕ) → at ≤ k → k < length going → n < get_or going k 0) → (x : Bool) → nat_lt k at ≡ x → (get_or going k d == n) ≡ false
      step k d within below above true e =
          let before : k < at = grind (arith, nat_tests) in
          let less = below k before in
          let there : get_or going k d ≡ get_or going k 0 = grind (arith, common_steps) in
          differs (get_or going k d) n (inl (omega arith))
      step k d within below above false e =
          let past : at ≤ k = grind (arith, nat_tests) in
          let more = above k past within in
          let there : get_or going k d ≡ get_or going k 0 = grind (arith, common_steps) in
          differs (get_or going k d) n (inr (omega arith))

-- ---- without one

kept : (xs : List ℕ) (n : ℕ) → All (λ k. n < k) xs → filter (λ k. not (k == n)) xs ≡ xs
kept [] n above = refl
kept (x ∷ xs) n above =
    let first : n < x = above 0 0 (omega arith) in
    let apart : (x == n) ≡ false = differs x n (inr first) in
    rw apart (ap (λ t. x ∷ t) (kept xs n (λ k d within. above (suc k) d (omega arith))))

pub removed : (xs : List ℕ) (n at : ℕ) → AllPairs (λ x y. x < y) xs → at < length xs → get_or xs at 0 ≡ n → remove xs at ≡ without n xs
removed [] n at rising within here = absurd (omega arith)
removed (x ∷ xs) n zero rising within here =
    let equal : (x == n) ≡ true = same x n here in
    let later : filter (λ k. not (k == n)) xs ≡ xs = kept xs n (λ k d inside. let up : x < get_or xs k d = rising zero (suc k) d (omega arith) (omega arith) in omega arith) in
    rw equal (sym later)
removed (x ∷ xs) n (suc at) rising within here =
    let up : x < get_or xs at 0 = rising zero (suc at) 0 (omega arith) within in
    let apart : (x == n) ≡ false = differs x n (inl (omega arith)) in
    rw apart (ap (λ t. x ∷ t) (removed xs n at (λ i j d lt inside. rising (suc i) (suc j) d (omega arith) (omega arith)) (omega arith) here))

pub still_going : (clients : ℕ) (going : List ℕ) (n : ℕ) → AreGoing clients going → AreGoing clients (without n going)
still_going clients going n are = record {
  rising = AllPairs-filter (λ x y. x < y) (λ k. not (k == n)) going are.rising;
  came = All-filter (λ k. not (k == n)) (λ k. k < clients) going are.came;
}

pub ended : (before came : Came) (left : List ℕ) (n : ℕ) → before ≡ came → left ≡ without n before.going → true ≡ is_going n came.going → ◌≡◌ {A = Result Came ArrivalCause} (Ok (record before { going = left })) (client_ended n came)
ended before came left n e away goes =
    let yes : is_going n came.going ≡ true = sym goes in
    ap (λ (xs : List ℕ). Ok (record before { going = xs })) away ∙ ap (λ (c : Came). Ok (record c { going = without n c.going })) e ∙ rw yes refl
