use Rattle.std.proofs.Common.{◌++◌}
use Rattle.nv_outside.proofs.Writing.{puts-then, puts-failed}
use Rattle.nv_report.specs.Versions.{fate_text}
use Rattle.nv_driver.specs.Comments.{count_text}
use Rattle.nv_driver.proofs.comments.put_ended.Goals as goal

pub returns : goal.returns
returns g c = puts-then c.in_ok-put_version_ended.ensures (puts-then c.in_ok-put_fate.ensures c.put_count.ensures)

pub returns-in_err-put_version_ended : goal.returns-in_err-put_version_ended
returns-in_err-put_version_ended g c =
    puts-failed (fate_text c.args.fate ++ count_text c.args.seen) c.from_residual.ensures.0 c.in_err-put_version_ended.ensures

pub returns-in_err-put_fate : goal.returns-in_err-put_fate
returns-in_err-put_fate g c =
    puts-then c.in_ok-put_version_ended.ensures (puts-failed (count_text c.args.seen) c.from_residual-in_err-put_fate.ensures.0 c.in_err-put_fate.ensures)
