use Rattle.std.proofs.Common.{◌≡◌, map, take}
use Rattle.serde_json.specs.View.{view}
use Rattle.nv_report.specs.Json.{span_value}
use Rattle.nv_report.proofs.values.spans.Given as goal

abbrev pub invariant-loop-span : goal.invariant-loop-span
invariant-loop-span l = map view l.items.items ≡ map span_value (take l.span-index l.spans)
