use Rattle.nv_outside.proofs.Writing.{puts-is, puts-then, puts-failed}
use Rattle.nv_trace.proofs.writing.put_payloads.Goals as goal

pub returns : goal.returns
returns g c = puts-then (puts-is c.as_slice.ensures.bytes c.in_ok-put_all.ensures) (puts-is c.as_slice-2.ensures.bytes c.put_all-2.ensures)

pub returns-in_err-put_all : goal.returns-in_err-put_all
returns-in_err-put_all g c = puts-failed c.args.event.now.reply.payload.bytes c.from_residual.ensures.0 (puts-is c.as_slice.ensures.bytes c.in_err-put_all.ensures)
