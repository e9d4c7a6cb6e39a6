use Rattle.clap.specs.Simple.{app_of}
use Rattle.nv_driver.specs.Tables.{app_by}
use Rattle.nv_driver.specs.Words.{texts}
use Rattle.nv_driver.proofs.Lines.{error_by}
use Rattle.nv_driver.proofs.Matches.{simple, simple_too, taken, refused}
use Rattle.nv_driver.proofs.matching.matched.Goals as goal

pub returns-clause-rows : goal.returns-clause-rows
returns-clause-rows c =
    let held = app_of c.in_ok-command.command in
    let plain = simple_too held (app_by c.args.form.now) c.in_ok-command.ensures c.requires in
    taken held _ c.in_ok-command.ensures (texts c.args.words.now) _ (c.in_ok-try_get_matches_from.ensures.kinds plain) (c.in_ok-try_get_matches_from.ensures.matches (simple held plain)).0

pub returns-in_err-try_get_matches_from-clause-refused : goal.returns-in_err-try_get_matches_from-clause-refused
returns-in_err-try_get_matches_from-clause-refused c =
    let held = app_of c.in_ok-command.command in
    let plain = simple_too held (app_by c.args.form.now) c.in_ok-command.ensures c.requires in
    error_by c.from_residual-in_err-try_get_matches_from.result _ _
    (λ fault is. refused held _ c.in_ok-command.ensures (texts c.args.words.now) _ fault is (c.in_err-try_get_matches_from.ensures.kinds plain))
    c.from_residual-in_err-try_get_matches_from.ensures.1
