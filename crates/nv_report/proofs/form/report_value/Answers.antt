use Rattle.std.proofs.Common.{◌∙◌}
use Rattle.std.proofs.lemmas.Result.{IfOk-weaker}
use Rattle.nv_report.proofs.Objects.{report_is}
use Rattle.nv_report.proofs.form.report_value.Goals as goal

pub returns : goal.returns
returns g c =
    IfOk-weaker c.report_object.result _ _
    (λ value h. h ∙ report_is _ _ _ _ _ _ _ _ _ c.in_ok-fates.ensures c.deref.ensures.value c.in_ok-log.ensures c.history.ensures.log c.in_ok-output.ensures c.output.ensures)
    c.report_object.ensures
