use Rattle.std.proofs.Common.{length}
use Rattle.nv_workers.proofs.running.+round.Given as goal

abbrev pub decreases-round : goal.decreases-round
decreases-round g l = length l.workers.now
