use Rattle.std.proofs.Common.{length}
use Rattle.nv_guest.proofs.answers.+store_sets.Given as goal

abbrev pub decreases-store_sets : goal.decreases-store_sets
decreases-store_sets l = length l.places.now
