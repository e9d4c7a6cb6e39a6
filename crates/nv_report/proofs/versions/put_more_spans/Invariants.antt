use Rattle.std.proofs.Common.{take, Ok}
use Rattle.std.specs.List.{flat_map}
use Rattle.nv_outside.specs.Sink.{Puts}
use Rattle.nv_report.specs.Versions.{next_span_text}
use Rattle.nv_report.proofs.versions.put_more_spans.Given as goal

abbrev pub invariant-loop-span : goal.invariant-loop-span
invariant-loop-span g l =
    Puts (g.S.Sink.told l.fn.sink) (g.S.Sink.faults l.fn.sink) (flat_map next_span_text (take l.span-index l.spans)) (Ok tt)
    (g.S.Sink.told l.sink) (g.S.Sink.faults l.sink)
