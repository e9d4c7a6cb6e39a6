use Rattle.std.proofs.Common.{◌++◌, ap}
use Rattle.nv_outside.proofs.Writing.{puts-is, puts-then, puts-failed}
use Rattle.nv_report.specs.Versions.{led_text, rewrites_text}
use Rattle.nv_report.proofs.versions.put_rest.Goals as goal

pub returns-in_err-put_seen : goal.returns-in_err-put_seen
returns-in_err-put_seen g c = puts-failed (led_text c.args.standing.now.led ++ rewrites_text c.args.standing.now.rewrites) c.from_residual.ensures.0 c.in_err-put_seen.ensures

pub returns : goal.returns
returns g c =
    puts-then c.in_ok-put_seen.ensures (puts-then (puts-is (ap led_text c.as_slice.ensures) c.in_ok-put_led.ensures) c.put_rewrites.ensures)

pub returns-in_err-put_led : goal.returns-in_err-put_led
returns-in_err-put_led g c =
    puts-then c.in_ok-put_seen.ensures (puts-failed (rewrites_text c.args.standing.now.rewrites) c.from_residual-in_err-put_led.ensures.0
    (puts-is (ap led_text c.as_slice.ensures) c.in_err-put_led.ensures))
