use Rattle.std.proofs.Common.{◌<◌, length, sym, ◌∙◌, arith}
use Rattle.std.proofs.lemmas.Bool.Decides.{nat_tests}
use Rattle.nv_asm.proofs.Digits.{decimal-digits}
use Rattle.nv_asm.proofs.numbers.decimal.Goals as goal

pub value-requires-clause-digits : goal.value-requires-clause-digits
value-requires-clause-digits c =
    let some : 0 < length c.args.digits.now = grind (arith, nat_tests) in
    decimal-digits c.args.digits.now (sym c.are_decimal.ensures ∙ c.if-are_decimal.true) some
