-- Workers in stretches.
use Rattle.std.proofs.Common.{◌≡◌, ◌∙◌, ap, ℕ, zero, suc, ◌+◌, ◌-◌, ◌*◌, ◌/◌, ◌%◌, ◌<◌, ◌≤◌, arith, refl, min}
use Rattle.std.proofs.Math.Nat.{mod-lt, div-add-mod, le-div_iff_mul-le}
use Rattle.nv_workers.specs.inner.Dealing.{AreEven}

-- r stretches of the larger size, and k of q
shared : (q r k : ℕ) → r * (q + min 1 r) + k * q ≡ (r + k) * q + r
shared q zero k = grind arith
shared q (suc r) k = grind arith

-- so many workers are in the stretches of the two sizes
halves : (n t : ℕ) → 0 < t → (n % t) * (n / t + min 1 (n % t)) + (t - n % t) * (n / t) ≡ n
halves n t some =
    let below : n % t < t = mod-lt n some in
    let e : n % t + (t - n % t) ≡ t = omega (arith, below) in
    shared (n / t) (n % t) (t - n % t) ∙ (ap (λ (m : ℕ). m * (n / t) + n % t) e ∙ div-add-mod n t)

at_least_one : (n t : ℕ) → 0 < t → t ≤ n → 0 < n / t
at_least_one n t some enough = (le-div_iff_mul-le some).1 (omega (arith, enough))

module _ (n t : ℕ) (some : 0 < t) (enough : t ≤ n) (long : ℕ) (is : long ≡ n / t + min 1 (n % t)) where
  pub longer_fit : (n % t) * long ≤ n
  longer_fit = let h = halves n t some in rw is (omega (arith, h))

  pub short_first : (n % t) * long ≤ n - (n % t) * long → AreEven n t (record { first = n - (n % t) * long; size = n / t; other = long })
  short_first most =
      let h : (n % t) * long + (t - n % t) * (n / t) ≡ n = rw is (halves n t some) in
      let below : n % t < t = mod-lt n some in
      let one = at_least_one n t some enough in
      record {
        first = t - n % t;
        others = n % t;
        all = omega (arith, below);
        together = omega (arith, h);
        whole = omega (arith, h);
        most = most;
        apart = (omega (arith, is), omega (arith, is));
        some = (omega (arith, h, most, some, enough), one, omega (arith, is, one));
      }

  pub long_first : n - (n % t) * long ≤ (n % t) * long → AreEven n t (record { first = (n % t) * long; size = long; other = n / t })
  long_first most =
      let h : (n % t) * long + (t - n % t) * (n / t) ≡ n = rw is (halves n t some) in
      let below : n % t < t = mod-lt n some in
      let one = at_least_one n t some enough in
      record {
        first = n % t;
        others = t - n % t;
        all = omega (arith, below);
        together = refl;
        whole = h;
        most = omega (arith, h, most);
        apart = (omega (arith, is), omega (arith, is));
        some = (omega (arith, h, most, some, enough), omega (arith, is, one), one);
      }
