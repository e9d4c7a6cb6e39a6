-- Words found in a table.
use Rattle.std.proofs.Common.{◌≡◌, ℕ, ◌<◌, Bool, true, false, ◌&&◌, IsTrue, IfSome, refl, nat_lt, List, [], ◌∷◌, Option, Some, None, if◌then◌else◌, bytes_eq}
use Rattle.std.specs.List.{list_all}
use borrow.Author.Tests.{ltb-true}
use Rattle.nv_bytes.specs.Names.{defined}

pub below-32 : (o : Option ℕ) → IfSome o (λ n. IsTrue (nat_lt n 32)) → IfSome o (λ n. n < 32)
below-32 None h = h
below-32 (Some n) h = ltb-true n 32 h

-- what a test says of every entry, it says of what is found
pub defined-all : {D : Type 0} (p : D → Bool) (table : List (List ℕ × D)) (word : List ℕ) → list_all (λ e. p e.1) table ≡ true → IfSome (defined table word) (λ d. IsTrue (p d))
unfolding defined
defined-all p [] word all = tt
defined-all p (e ∷ table) word all = step (bytes_eq word e.0) (p e.1) refl all (λ h. defined-all p table word h) where
  step : (same passes : Bool) → p e.1 ≡ passes → (passes && list_all (λ e. p e.1) table) ≡ true → (list_all (λ e. p e.1) table ≡ true → IfSome (defined table word) (λ d. IsTrue (p d))) → IfSome (if same then Some e.1 else defined table word) (λ d. IsTrue (p d))
  step true true q h later = q
  step true false q h later = cc
  step false true q h later = later h
  step false false q h later = cc
