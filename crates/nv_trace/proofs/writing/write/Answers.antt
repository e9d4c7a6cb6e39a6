use Rattle.std.proofs.Common.{ap, sym, map}
use Rattle.std.specs.List.{flat_map}
use Rattle.std.proofs.lemmas.List.{length-map}
use Rattle.nv_outside.proofs.Writing.{puts-is, puts-then, puts-failed}
use Rattle.nv_calls.specs.Calls.{entry}
use Rattle.nv_trace.specs.Trace.{event_bytes, head_bytes, trace_of}
use Rattle.nv_trace.proofs.Recording.{bytes_of_events}
use Rattle.nv_trace.proofs.writing.write.Goals as goal

pub returns : goal.returns
unfolding trace_of
returns g c =
    puts-then (puts-is (ap head_bytes (sym (length-map c.args.log.now entry))) c.in_ok-put_head.ensures) (puts-is (bytes_of_events c.args.log.now) c.put_events.ensures)

pub returns-in_err-put_head : goal.returns-in_err-put_head
unfolding trace_of
returns-in_err-put_head g c =
    puts-failed (flat_map event_bytes (map entry c.args.log.now)) c.from_residual.ensures.0 (puts-is (ap head_bytes (sym (length-map c.args.log.now entry))) c.in_err-put_head.ensures)
