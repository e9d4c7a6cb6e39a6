use Rattle.std.proofs.Common.{length}
use Rattle.nv_run_tests.proofs.scheduler.+turn_of.Given as goal

abbrev pub decreases-turn_of : goal.decreases-turn_of
decreases-turn_of l = length l.workers.now
