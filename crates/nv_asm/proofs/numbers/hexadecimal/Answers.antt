use Rattle.std.proofs.Common.{◌<◌, length, sym, ◌∙◌, arith}
use Rattle.std.proofs.lemmas.Bool.Decides.{nat_tests}
use Rattle.nv_asm.proofs.Digits.{hexadecimal-digits}
use Rattle.nv_asm.proofs.numbers.hexadecimal.Goals as goal

pub value-requires-clause-digits : goal.value-requires-clause-digits
value-requires-clause-digits c =
    let some : 0 < length c.args.digits.now = grind (arith, nat_tests) in
    hexadecimal-digits c.args.digits.now (sym c.are_hexadecimal.ensures ∙ c.if-are_hexadecimal.true) some
