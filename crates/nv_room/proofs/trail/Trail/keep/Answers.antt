use Rattle.nv_room.proofs.Follows.{kept_at}
use Rattle.std.proofs.Common.{◌∙◌}
use Rattle.nv_room.proofs.trail.Trail.keep.Goals as goal

pub returns : goal.returns
returns c places seen words is t = record {
  lanes = t.lanes;
  pool_is = t.pool_is;
  pool = t.pool;
  first = λ w. c.kept-self.ensures ∙ kept_at c.args.self.now.first 0 c.args.i c.args.word words is t.first w;
  sixth = λ w. c.kept-self-2.ensures ∙ kept_at c.args.self.now.sixth 5 c.args.i c.args.word words is t.sixth w;
}
