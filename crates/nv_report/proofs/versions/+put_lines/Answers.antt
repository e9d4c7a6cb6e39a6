use Rattle.std.proofs.Common.{◌+◌, List, map, sym, ap}
use Rattle.nv_outside.proofs.Writing.{puts-is, puts-then, puts-failed}
use Rattle.nv_threads.specs.Threads.{Proc}
use Rattle.nv_replay.specs.Version.{Running, standing_of}
use Rattle.nv_report.specs.Versions.{line_text, lines_text}
use Rattle.nv_report.proofs.versions.+put_lines.Goals as goal

pub returns-in_ok-put_line-in-Some : goal.returns-in_ok-put_line-in-Some
returns-in_ok-put_line-in-Some g t c =
    puts-is (ap (λ (vs : List (Running Proc)). lines_text c.args.first (map standing_of vs)) (sym c.in-Some.ensures.cases.0))
    (puts-then (puts-is (ap (line_text c.args.first) c.standing.ensures) c.in_ok-put_line-in-Some.ensures) c.put_lines.ensures)

pub returns-in_err-put_line-in-Some : goal.returns-in_err-put_line-in-Some
returns-in_err-put_line-in-Some g t c =
    puts-is (ap (λ (vs : List (Running Proc)). lines_text c.args.first (map standing_of vs)) (sym c.in-Some.ensures.cases.0))
    (puts-failed (lines_text (c.args.first + 1) (map standing_of c.in-Some.others.now)) c.from_residual.ensures.0
    (puts-is (ap (line_text c.args.first) c.standing.ensures) c.in_err-put_line-in-Some.ensures))
