use Rattle.std.proofs.Common.{map, sym, ap}
use Rattle.std.proofs.lemmas.List.{length-map}
use Rattle.nv_outside.proofs.Writing.{puts-is, puts-then, puts-failed}
use Rattle.nv_replay.specs.Version.{standing_of}
use Rattle.nv_report.specs.Versions.{lines_text}
use Rattle.nv_report.specs.Report.{count_text}
use Rattle.nv_report.proofs.whole.put_fates.Goals as goal

pub returns : goal.returns
returns g c = puts-then (puts-is (ap count_text (sym (length-map c.args.versions.now standing_of))) c.in_ok-put_count.ensures) c.put_lines.ensures

pub returns-in_err-put_count : goal.returns-in_err-put_count
returns-in_err-put_count g c =
    puts-failed (lines_text 0 (map standing_of c.args.versions.now)) c.from_residual.ensures.0
    (puts-is (ap count_text (sym (length-map c.args.versions.now standing_of))) c.in_err-put_count.ensures)
