use Rattle.std.proofs.Common.{arith}
use Rattle.nv_room.proofs.trail.Trail.start.Goals as goal

pub returns : goal.returns
returns c = record {
  lanes = c.start.ensures.is;
  pool_is = c.in_ok-make.ensures.sizes;
  pool = c.in_ok-make.ensures.empty;
  first = λ w. absurd (omega arith);
  sixth = λ w. absurd (omega arith);
}
