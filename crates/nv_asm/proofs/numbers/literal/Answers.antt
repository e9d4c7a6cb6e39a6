use Rattle.std.proofs.Common.{rules, Some, sym, ap, ◌∙◌, option_map}
use Rattle.std.proofs.lemmas.List.{take_rest}
use Rattle.nv_asm.specs.Numbers.{magnitude}
use Rattle.nv_asm.specs.inner.Small.{small}
use Rattle.nv_asm.proofs.Signs.{literal-signed}
use Rattle.nv_asm.proofs.numbers.literal.Goals as goal

pub returns-in_ok-magnitude-in-45 : goal.returns-in_ok-magnitude-in-45
returns-in_ok-magnitude-in-45 c =
    let text = c.args.text.now in
    ap Some c.signed.ensures ∙ literal-signed text c.in_ok-magnitude-in-45.field-0 c.in-45.len_at_least (search rules)
    (ap (λ d. option_map small (magnitude d)) (sym (take_rest text 1)) ∙ sym c.magnitude.ensures ∙ search rules)
