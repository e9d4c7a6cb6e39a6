use Rattle.nv_gen.proofs.Fitting.{fits-points}
use Rattle.nv_gen.proofs.code.point.Goals as goal

pub returns-clause-fits : goal.returns-clause-fits
returns-clause-fits c = fits-points c.args.rd c.requires
