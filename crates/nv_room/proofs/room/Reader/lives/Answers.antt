use Rattle.std.proofs.Common.{ap, ◌∙◌}
use Rattle.nv_room.specs.Lanes.{lives}
use Rattle.nv_room.proofs.room.Reader.lives.Goals as goal

pub returns : goal.returns
returns g c = c.lives.ensures ∙ ap (λ t. lives t c.args.lane) c.args.self.now.trail_is.lanes
