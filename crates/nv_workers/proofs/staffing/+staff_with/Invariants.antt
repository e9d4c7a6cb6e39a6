use Rattle.std.proofs.Common.{length}
use Rattle.nv_workers.proofs.staffing.+staff_with.Given as goal

abbrev pub decreases-staff_with : goal.decreases-staff_with
decreases-staff_with g l = length l.readers.items
