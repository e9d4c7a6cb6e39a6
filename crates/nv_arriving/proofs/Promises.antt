-- The memory for what a client sends, where it grows for one more arrival.
use Rattle.std.proofs.Common.{◌≡◌, ◌≢◌, sym, ap, subst, refl, ℕ, ◌+◌, ◌==◌, Bool, true, false, List, length, ⊎_elim, arith}
use Rattle.std.specs.Prelude.{if◌then◌else◌}
use Rattle.std.proofs.lemmas.Bool.{cases_eq}
use Rattle.std.proofs.lemmas.Bool.Decides.{nat_tests}
use Rattle.nv_sockets.specs.Reserved.{Buffered}
use Rattle.nv_sockets.specs.Coming.{came_over, HasInput}

came_at : (i : ℕ) (bytes : List ℕ) (j : ℕ) → j ≡ i → came_over i bytes j ≡ length bytes
came_at i bytes j e =
    let same : (i == j) ≡ true = grind (arith, nat_tests) in
    ap (λ (b : Bool). if b then length bytes else 0) same

came_not : (i : ℕ) (bytes : List ℕ) (j : ℕ) → j ≢ i → came_over i bytes j ≡ 0
came_not i bytes j e =
    let other : (i == j) ≡ false = grind (arith, nat_tests, e) in
    ap (λ (b : Bool). if b then length bytes else 0) other

pub data_there : (old new : Buffered) (i : ℕ) (bytes : List ℕ) → ((j m : ℕ) → HasInput old j m → HasInput new j m) → ((m : ℕ) → HasInput old i m → HasInput new i (m + length bytes))
    → (j n : ℕ) → HasInput old j n → HasInput new j (came_over i bytes j + n)
data_there old new i bytes keeps more j n h =
    ⊎_elim
    (λ (e : j ≡ i). subst (λ (k : ℕ). HasInput new k (came_over i bytes k + n)) (sym e)
    (λ going. let fits = more n (subst (λ (k : ℕ). HasInput old k n) e h) going in omega (arith, came_at i bytes i refl, fits)))
    (λ (e : j ≢ i) going. let fits = keeps j n h going in omega (arith, came_not i bytes j e, fits))
    (cases_eq j i)
