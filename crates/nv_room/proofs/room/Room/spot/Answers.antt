use Rattle.std.proofs.Common.{refl, ap, ◌∙◌, ◌%◌, ℕ, get_or, length}
use Rattle.nv_pool.specs.Chunks.{first_chunk}
use Rattle.nv_room.proofs.PoolOfLog.{first_is}
use Rattle.nv_room.specs.Placement.{sizes}
use Rattle.nv_room.proofs.room.Room.spot.Goals as goal

pub returns : goal.returns
returns g c seen words t = let room = c.args.self.now in record {
  lane = refl;
  below = c.requires.lane;
  place = ap (λ (z : ℕ). z % room.places) (c.next.ensures ∙ ap (λ s. get_or s.counts c.args.lane 0) t.lanes);
  first = c.next-2.ensures.is (sizes seen) t.pool ∙ ap (λ (z : ℕ). first_chunk z (sizes seen) (length (sizes seen))) t.pool_is.0 ∙ first_is room.places seen;
}
