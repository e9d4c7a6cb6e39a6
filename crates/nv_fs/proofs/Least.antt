-- The least number that isn't in use, found one number after another.
use Rattle.std.proofs.Common.{◌≡◌, ◌∙◌, ap, ℕ, suc, ◌+◌, ◌-◌, ◌<◌, Bool, true, cond, arith}
use Rattle.nv_fs.specs.States.{least_free}

by_used : (b : Bool) (x y : ℕ) → b ≡ true → cond b x y ≡ x
by_used b x y h = ap (λ (z : Bool). cond z x y) h

one_of : (n i : ℕ) → i < n → n - i ≡ suc (n - (i + 1))
one_of n i h = omega arith

-- a number in use is passed over
pub least_step : (used : ℕ → Bool) (n i : ℕ) → i < n → used i ≡ true → least_free used (n - i) i ≡ least_free used (n - (i + 1)) (i + 1)
least_step used n i h u = ap (λ (z : ℕ). least_free used z i) (one_of n i h) ∙ by_used (used i) _ _ u
