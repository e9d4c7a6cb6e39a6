use Rattle.std.proofs.Common.{◌++◌, ap}
use Rattle.nv_outside.proofs.Writing.{puts-is, puts-then, puts-failed}
use Rattle.nv_trace.specs.Trace.{number_bytes, event_bytes}
use Rattle.nv_trace.proofs.writing.put_event.Goals as goal

pub returns : goal.returns
unfolding event_bytes
returns g c = puts-then (puts-is (ap number_bytes c.fields_of.ensures) c.in_ok-put_numbers.ensures) c.put_payloads.ensures

pub returns-in_err-put_numbers : goal.returns-in_err-put_numbers
unfolding event_bytes
returns-in_err-put_numbers g c =
    let e = c.args.event.now in
    puts-failed (e.call.payload.bytes ++ e.reply.payload.bytes) c.from_residual.ensures.0 (puts-is (ap number_bytes c.fields_of.ensures) c.in_err-put_numbers.ensures)
