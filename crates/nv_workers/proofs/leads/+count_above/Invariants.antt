use Rattle.std.proofs.Common.{length}
use Rattle.nv_workers.proofs.leads.+count_above.Given as goal

abbrev pub decreases-count_above : goal.decreases-count_above
decreases-count_above l = length l.hands.now
