use Rattle.std.proofs.Common.{◌∙◌, sym}
use Rattle.std.proofs.lemmas.Str.{IsUtf8-from_ascii}
use Rattle.nv_bytes.proofs.Digits.{number-refused, number-parsed, ascii-digits}
use Rattle.nv_bytes.proofs.numbers.number.Goals as goal

pub returns-then-not-are_digits : goal.returns-then-not-are_digits
returns-then-not-are_digits c = sym (number-refused c.args.text.now (sym c.are_digits.ensures ∙ c.if-not-are_digits.true))

pub returns-in-Err : goal.returns-in-Err
returns-in-Err c =
    absurd (c.in-Err.ensures.cases.0 (IsUtf8-from_ascii c.args.text.now (ascii-digits c.args.text.now (sym c.are_digits.ensures ∙ c.if-not-are_digits.false))))

pub returns-in-Ok : goal.returns-in-Ok
returns-in-Ok c =
    c.ok.ensures.value ∙ number-parsed c.args.text.now c.parse.result (sym c.are_digits.ensures ∙ c.if-not-are_digits.false) (rw c.in-Ok.ensures.cases.0 at c.parse.ensures.value.0)
