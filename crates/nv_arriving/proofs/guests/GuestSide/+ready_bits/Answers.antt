use mir.Val.{bool_byte}
use Rattle.std.proofs.Common.{◌≡◌, ◌+◌, ◌-◌, ◌*◌, ◌^◌, ◌≤◌, ◌<◌, Bool, true, false, ℕ, zero, suc, refl, arith}
use Rattle.nv_arriving.proofs.guests.GuestSide.+ready_bits.Goals as goal

-- one more bit below those
one_more : (first rest n : ℕ) → first ≤ 1 → rest < 2 ^ (n - 1) → (n ≡ 0 → ⊥) → first + 2 * rest < 2 ^ n
one_more first rest zero p q h = absurd (h refl)
one_more first rest (suc n) p q h = grind arith

bit_few : (n : ℕ) (b : Bool) → n ≡ bool_byte b → n ≤ 1
bit_few n true h = omega (arith, h)
bit_few n false h = omega (arith, h)

pub returns-clause-below : goal.returns-clause-below
returns-clause-below t c =
    let bit : c.from.result ≤ 1 = bit_few _ _ c.from.ensures in
    one_more c.from.result c.ready_bits-rest.result.bits c.args.left bit c.ready_bits-rest.ensures.below c.if-left-eq0.false
