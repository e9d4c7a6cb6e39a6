use Rattle.std.proofs.Common.{◌∙◌, sym}
use Rattle.std.proofs.lemmas.Result.{IfOk-weaker, IfErr-weaker}
use Rattle.nv_driver.specs.Words.{texts}
use Rattle.nv_driver.specs.Tables.{name_view}
use Rattle.nv_driver.proofs.Lines.{error_by, line_is, no_line}
use Rattle.nv_driver.proofs.reading.read_words.Goals as goal

pub returns-in_err-matches-clause-refused : goal.returns-in_err-matches-clause-refused
returns-in_err-matches-clause-refused c =
    error_by c.from_residual.result _ _
    (λ fault is usage. no_line (texts c.args.words.now) (name_view c.args.name) _ c.form.ensures.named (c.in_err-matches.ensures.refused (sym is ∙ usage)))
    c.from_residual.ensures.1

pub returns-clause-command : goal.returns-clause-command
returns-clause-command c =
    IfOk-weaker c.asked.result _ _
    (λ command h. line_is (texts c.args.words.now) (name_view c.args.name) _ c.form.ensures.named _ c.in_ok-matches.ensures.rows ∙ h)
    c.asked.ensures.command

pub returns-clause-refused : goal.returns-clause-refused
returns-clause-refused c =
    IfErr-weaker c.asked.result _ _
    (λ fault h usage. line_is (texts c.args.words.now) (name_view c.args.name) _ c.form.ensures.named _ c.in_ok-matches.ensures.rows ∙ h usage)
    c.asked.ensures.refused
