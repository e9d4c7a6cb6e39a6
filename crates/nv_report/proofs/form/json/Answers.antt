use Rattle.std.proofs.Common.{ap, ◌∙◌}
use Rattle.serde_json.specs.Written.{has_float}
use Rattle.nv_report.proofs.Fractions.{in_report, text_is}
use Rattle.nv_report.proofs.form.json.Goals as goal

pub returns : goal.returns
returns g c =
    let is = c.in_ok-value.ensures in
    ap (λ bytes. bytes.items) c.into_bytes.ensures.value ∙ c.in_ok-text.ensures.text (ap has_float is ∙ in_report _ _) ∙ text_is _ _ _ is
