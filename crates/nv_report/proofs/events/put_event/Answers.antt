use Rattle.std.proofs.Common.{◌++◌, ap, ◌∙◌, codes}
use Rattle.nv_outside.proofs.Writing.{puts-is, puts-then, puts-failed}
use Rattle.nv_calls.specs.Calls.{entry}
use Rattle.nv_report.specs.Events.{result_text, payload_text}
use Rattle.nv_report.proofs.events.put_event.Goals as goal

pub returns-in_err-put_call : goal.returns-in_err-put_call
returns-in_err-put_call g c =
    let e = entry c.args.event.now in
    puts-failed (result_text e.reply.ret ++ (payload_text e.call.payload e.reply.payload ++ codes "\n")) c.from_residual.ensures.0 c.in_err-put_call.ensures

pub returns : goal.returns
returns g c =
    let end = puts-is (ap (λ call. payload_text call c.as_slice-2.result.now ++ codes "\n") c.as_slice.ensures.bytes
    ∙ ap (λ reply. payload_text c.args.event.now.call.payload.bytes reply ++ codes "\n") c.as_slice-2.ensures.bytes)
    c.put_end.ensures in
    puts-then c.in_ok-put_call.ensures (puts-then c.in_ok-put_result.ensures end)

pub returns-in_err-put_result : goal.returns-in_err-put_result
returns-in_err-put_result g c =
    let e = entry c.args.event.now in
    puts-then c.in_ok-put_call.ensures (puts-failed (payload_text e.call.payload e.reply.payload ++ codes "\n") c.from_residual-in_err-put_result.ensures.0 c.in_err-put_result.ensures)
