use Rattle.nv_outside.proofs.Writing.{puts-stopped}
use Rattle.nv_report.specs.Versions.{next_span_text}
use Rattle.nv_report.proofs.versions.put_more_spans.Goals as goal

pub returns-in_err-put_next_span : goal.returns-in_err-put_next_span
returns-in_err-put_next_span g c = puts-stopped next_span_text c.args.spans.now c.loop-span.span-index (0, 0) c.loop-span-test.true c.from_residual.ensures.0
    c.loop-span.invariant c.in_err-put_next_span.ensures
