use Rattle.std.proofs.Common.{arith, subst, ◌∙◌}
use Rattle.nv_pool.specs.Pool.{Holds}
use Rattle.nv_room.specs.Placement.{sizes}
use Rattle.nv_room.proofs.Follows.{lanes_passed, sizes_push}
use Rattle.nv_room.proofs.trail.Trail.pass.Goals as goal

pub returns : goal.returns
returns c places seen written is t = let s = c.args.self.now in let six = c.requires.words.0 in record {
  lanes = c.note.ensures ∙ lanes_passed s.lanes s.first s.sixth seen written t.lanes (t.first (omega arith)) (t.sixth (omega arith));
  pool_is = (c.add.ensures.same.0 ∙ t.pool_is.0, c.add.ensures.same.1 ∙ t.pool_is.1);
  pool = subst (Holds c.add.new.self) (sizes_push seen written c.args.words is) (c.add.ensures.after (sizes seen) t.pool);
  first = λ w. absurd (omega arith);
  sixth = λ w. absurd (omega arith);
}
