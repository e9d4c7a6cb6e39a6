use lib.IntN.{nat_abs}
use Rattle.std.specs.Int.{w32, cast_signed, cast_unsigned}
use Rattle.std.proofs.Common.{◌≡◌, ap, ◌∙◌, ℕ, ◌*◌, ◌<◌, ◌^◌, arith, rules}
use Rattle.std.proofs.lemmas.Int.{ints}
use Rattle.nv_asm.proofs.Fitting.{fits-as, fits-upper}
use Rattle.nv_asm.proofs.statements.upper_number.Goals as goal

pub single-requires : goal.single-requires
single-requires c =
    let w = rw c.in-Some.is at c.in_ok-value.ensures.within in
    let n : ℕ = cast_unsigned w32 c.in-Some.value in
    let small : n < 2 ^ 20 = omega (arith, ints, w) in
    let same : nat_abs (cast_signed w32 (cast_unsigned w32 c.in-Some.value)) ≡ n = omega (arith, ints, w) in
    fits-as c.args.op c.in_ok-rd.rd.number 0 0 c.cast_signed.result (cast_signed w32 (4096 * n)) (search rules) (c.cast_signed.ensures ∙ ap (λ m. cast_signed w32 (4096 * m)) same)
    (fits-upper c.args.op c.in_ok-rd.rd.number n c.requires c.in_ok-rd.rd.small small)
