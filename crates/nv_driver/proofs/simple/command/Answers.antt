use Rattle.std.proofs.lemmas.Result.{IfOk-weaker}
use Rattle.nv_driver.proofs.Apps.{both}
use Rattle.nv_driver.proofs.simple.command.Goals as goal

pub returns : goal.returns
returns c = IfOk-weaker c.add_each-2.result _ _ (λ more h. both _ _ _ _ _ _ c.named.ensures c.in_ok-options.ensures h) c.add_each-2.ensures
