use Rattle.nv_outside.proofs.Writing.{puts-then, puts-failed}
use Rattle.nv_report.specs.Versions.{span_text}
use Rattle.nv_report.proofs.versions.put_next_span.Goals as goal

pub returns : goal.returns
returns g c = puts-then c.in_ok-put_all.ensures c.put_span.ensures

pub returns-in_err-put_all : goal.returns-in_err-put_all
returns-in_err-put_all g c = puts-failed (span_text (c.args.from, c.args.to)) c.from_residual.ensures.0 c.in_err-put_all.ensures
