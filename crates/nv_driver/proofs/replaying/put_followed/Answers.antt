use Rattle.std.proofs.Common.{◌++◌, ap}
use Rattle.nv_inspect.specs.Shown.{standing_text}
use Rattle.nv_outside.proofs.Writing.{puts-is, puts-then, puts-failed}
use Rattle.nv_driver.specs.Replayed.{counts_text}
use Rattle.nv_driver.proofs.replaying.put_followed.Goals as goal

pub returns-in_err-put_all : goal.returns-in_err-put_all
returns-in_err-put_all g c = let at = c.args.version.now.at in puts-failed (standing_text at.fate ++ counts_text at.seen at.rewrites) c.from_residual.ensures.0 c.in_err-put_all.ensures

pub returns : goal.returns
returns g c =
    puts-then c.in_ok-put_all.ensures
    (puts-then (puts-is (ap (λ s. standing_text s.fate) c.standing-told.ensures) c.in_ok-put_end.ensures)
    (puts-is (ap (λ s. counts_text s.seen s.rewrites) c.standing-told.ensures) c.put_counts.ensures))

pub returns-in_err-put_end : goal.returns-in_err-put_end
returns-in_err-put_end g c =
    let at = c.args.version.now.at in
    puts-then c.in_ok-put_all.ensures
    (puts-failed (counts_text at.seen at.rewrites) c.from_residual-in_err-put_end.ensures.0 (puts-is (ap (λ s. standing_text s.fate) c.standing-told.ensures) c.in_err-put_end.ensures))
