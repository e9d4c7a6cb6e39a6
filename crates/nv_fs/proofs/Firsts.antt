-- The first place of a list where a test passes.
use Rattle.std.proofs.Common.{◌≡◌, ℕ, ◌≤◌, Some, None, cond, unwrap_or, arith, inl, inr}
use Rattle.std.specs.Prelude.{nat_lt}
use Rattle.std.proofs.lemmas.Bool.{cases_lt}
use Rattle.std.proofs.lemmas.Bool.Decides.{nat_tests}

-- a place, or the length where it isn't below it
pub unwrap_or-place : (p n : ℕ) → p ≤ n → unwrap_or (cond (nat_lt p n) (Some p) None) n ≡ p
unwrap_or-place p n h = elim (cases_lt p n) [ inl lt ↦ grind (arith, nat_tests) | inr ge ↦ grind (arith, nat_tests) ]
