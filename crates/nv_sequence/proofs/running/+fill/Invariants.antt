use Rattle.std.proofs.Common.{length}
use Rattle.nv_sequence.proofs.running.+fill.Given as goal

abbrev pub decreases-fill : goal.decreases-fill
decreases-fill l = length l.versions.now
