-- A sum with a number in two's complement.
use Rattle.std.proofs.Common.{◌∙◌, ℕ, ◌+◌, ◌-◌, ◌<◌, ◌≤◌, Some, arith}
use Rattle.std.specs.Prelude.{nat_lt}
use Rattle.std.proofs.lemmas.Bool.{cond-false, le-ltb}
use Rattle.nv_fs.specs.Seeks.{plus_signed, SumIs}

pub plus_back : (base n : ℕ) → 9223372036854775808 ≤ n → n < 18446744073709551616 → 18446744073709551615 - n + 1 ≤ base → base < 18446744073709551616 → SumIs (Some (base - (18446744073709551615 - n + 1))) (plus_signed base n)
plus_back base n h f b w =
    let low : 18446744073709551616 - n ≤ base = omega arith in
    (base - (18446744073709551616 - n), cond-false (nat_lt n 9223372036854775808) _ _ (le-ltb n 9223372036854775808 h) ∙ cond-false (nat_lt base (18446744073709551616 - n)) _ _ (le-ltb base (18446744073709551616 - n) low), omega arith)
