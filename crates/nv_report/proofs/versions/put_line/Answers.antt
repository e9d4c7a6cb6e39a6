use Rattle.nv_outside.proofs.Writing.{puts-then, puts-failed}
use Rattle.nv_report.specs.Versions.{rest_text}
use Rattle.nv_report.proofs.versions.put_line.Goals as goal

pub returns : goal.returns
returns g c = puts-then c.in_ok-put_prefix.ensures c.put_rest.ensures

pub returns-in_err-put_prefix : goal.returns-in_err-put_prefix
returns-in_err-put_prefix g c = puts-failed (rest_text c.args.standing.now) c.from_residual.ensures.0 c.in_err-put_prefix.ensures
