use Rattle.std.proofs.Common.{length}
use Rattle.nv_run_tests.proofs.scheduler.+last_turns.Given as goal

abbrev pub decreases-last_turns : goal.decreases-last_turns
decreases-last_turns l = length l.workers.now
