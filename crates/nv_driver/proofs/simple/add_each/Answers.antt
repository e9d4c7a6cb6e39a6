use Rattle.nv_driver.proofs.Apps.{one_more}
use Rattle.nv_driver.proofs.simple.add_each.Goals as goal

pub loop-name-preserved : goal.loop-name-preserved
loop-name-preserved c =
    one_more c.args.arguments.now c.loop-name.name-index _ c.loop-name-test.true _ _ _ _ c.in_ok-command.ensures c.loop-name.invariant c.argument.ensures.rule
