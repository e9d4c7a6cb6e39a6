use Rattle.std.proofs.Common.{ap}
use Rattle.nv_driver.specs.Words.{Limits}
use Rattle.nv_driver.proofs.trails.limits.Goals as goal

pub returns : goal.returns
returns c = ap (λ (limits : Limits). record limits { memory = c.args.trail.now.memory; budget = c.args.trail.now.budget; renews = c.args.trail.now.renews }) c.usual-usual.ensures
