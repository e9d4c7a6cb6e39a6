use Rattle.std.proofs.Common.{sym, subst, List, ℕ}
use Rattle.nv_driver.specs.Seen.{service_view}
use Rattle.nv_driver.specs.Due.{Says}
use Rattle.nv_driver.specs.Ran.{Wrote, Tells}
use Rattle.nv_driver.specs.Outcome.{NotRead, live_outcome_of, refused_text, text_of}
use Rattle.nv_driver.specs.declared.refusal.Refusal.{Refusal}
use Rattle.nv_driver.proofs.refusing.refuse_live.Goals as goal

pub returns-in-Unreadable : goal.returns-in-Unreadable
returns-in-Unreadable g c =
    subst (λ (refusal : Refusal). Tells (live_outcome_of refusal (service_view c.args.service.now)) (g.S.Sink.told c.args.sink.now) (g.S.Sink.faults c.args.sink.now) c.put_unread.result (g.S.Sink.told c.put_unread.new.sink) (g.S.Sink.faults c.put_unread.new.sink))
    (sym c.in-Unreadable.is)
    (subst (λ (name : List ℕ). Says (text_of (NotRead name)) 5 (g.S.Sink.told c.args.sink.now) (g.S.Sink.faults c.args.sink.now) c.put_unread.result (g.S.Sink.told c.put_unread.new.sink) (g.S.Sink.faults c.put_unread.new.sink))
    c.name_in.ensures c.put_unread.ensures)

pub returns-in-Input : goal.returns-in-Input
returns-in-Input g c =
    subst (λ (refusal : Refusal). Tells (live_outcome_of refusal (service_view c.args.service.now)) (g.S.Sink.told c.args.sink.now) (g.S.Sink.faults c.args.sink.now) c.put_input.result (g.S.Sink.told c.put_input.new.sink) (g.S.Sink.faults c.put_input.new.sink))
    (sym c.in-Input.is)
    (subst (λ (name : List ℕ). Wrote (refused_text name c.in-Input.cause) 4 (g.S.Sink.told c.args.sink.now) (g.S.Sink.faults c.args.sink.now) c.put_input.result (g.S.Sink.told c.put_input.new.sink) (g.S.Sink.faults c.put_input.new.sink))
    c.name_in-in-Input.ensures c.put_input.ensures)
