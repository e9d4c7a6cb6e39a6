use Rattle.std.proofs.Common.{sym, ap}
use Rattle.std.specs.List.{flat_map}
use Rattle.nv_outside.proofs.Writing.{puts-is, puts-then, puts-failed}
use Rattle.nv_report.specs.Versions.{led_text, next_span_text}
use Rattle.nv_report.proofs.versions.put_led.Goals as goal

pub returns-in_ok-put_span-in-Some : goal.returns-in_ok-put_span-in-Some
returns-in_ok-put_span-in-Some g c = puts-is (ap led_text (sym c.in-Some.ensures.cases.0)) (puts-then c.in_ok-put_span-in-Some.ensures c.put_more_spans.ensures)

pub returns-in_err-put_span-in-Some : goal.returns-in_err-put_span-in-Some
returns-in_err-put_span-in-Some g c = puts-is (ap led_text (sym c.in-Some.ensures.cases.0))
    (puts-failed (flat_map next_span_text c.in-Some.others.now) c.from_residual.ensures.0 c.in_err-put_span-in-Some.ensures)
