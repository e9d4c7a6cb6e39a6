use Rattle.nv_outside.proofs.Writing.{puts-then, puts-failed}
use Rattle.nv_calls.specs.Calls.{entry}
use Rattle.nv_report.specs.Events.{event_text}
use Rattle.nv_driver.proofs.comments.put_served.Goals as goal

pub returns : goal.returns
returns g c = puts-then c.in_ok-put_all.ensures c.put_event.ensures

pub returns-in_err-put_all : goal.returns-in_err-put_all
returns-in_err-put_all g c = puts-failed (event_text (entry c.args.event.now)) c.from_residual.ensures.0 c.in_err-put_all.ensures
