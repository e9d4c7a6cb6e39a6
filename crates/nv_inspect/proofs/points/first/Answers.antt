use Rattle.std.proofs.Common.{◌∙◌, map, take, ap}
use Rattle.nv_calls.specs.Calls.{entry}
use Rattle.nv_inspect.proofs.Prefixes.{map_take, take_least}
use Rattle.nv_inspect.proofs.points.first.Goals as goal

pub returns : goal.returns
returns c = ap (λ k. map entry (take k c.args.log.now)) c.min.ensures ∙ ap (map entry) (take_least c.args.most c.args.log.now) ∙ map_take c.args.most c.args.log.now
