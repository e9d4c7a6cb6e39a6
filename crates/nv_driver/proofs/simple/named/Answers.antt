use Rattle.nv_driver.proofs.Apps.{helpless}
use Rattle.nv_driver.proofs.simple.named.Goals as goal

pub returns : goal.returns
returns c = helpless _ _ _ c.disable_help_flag.ensures c.new.ensures.app
