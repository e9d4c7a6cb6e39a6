use Rattle.std.proofs.Common.{◌∙◌}
use Rattle.nv_replay.proofs.Numbers.{has_any}
use Rattle.nv_workers.proofs.leads.is_planned.Goals as goal

pub returns : goal.returns
returns c = c.contains.ensures.value ∙ has_any c.args.hands.now c.args.length
