use Rattle.std.proofs.Common.{length}
use Rattle.nv_sequence.proofs.running.+follow_rest.Given as goal

abbrev pub decreases-follow_rest : goal.decreases-follow_rest
decreases-follow_rest g l = length l.versions.now
