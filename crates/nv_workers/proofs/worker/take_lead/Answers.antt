use Rattle.std.proofs.Common.{subst, ap, ◌∙◌, arith}
use Rattle.nv_calls.specs.Logs.{IsLawful}
use Rattle.nv_workers.proofs.Moving.{follows_now, few_led, takes_lead}
use Rattle.nv_room.specs.Seats.{stations_of}
use Rattle.nv_workers.proofs.SeatSteps.{takes_by_steps}
use Rattle.nv_workers.proofs.worker.take_lead.Goals as goal

pub returns-clause-leads : goal.returns-clause-leads
returns-clause-leads g c = λ j most p buf f.
    let t = c.take-lead.ensures in
    takes_lead f c.take-lead.result c.begin_lead.new.self t.of t.station.1 t.view t.due t.asked t.log
    (subst IsLawful (ap g.K.SyscallKernel.log c.kernel.ensures) c.ended-end.ensures.lawful) c.begin_lead.ensures

pub begin_lead-requires-clause-following : goal.begin_lead-requires-clause-following
begin_lead-requires-clause-following g c =
    follows_now c.requires.follows.4

pub begin_lead-requires-clause-few : goal.begin_lead-requires-clause-few
begin_lead-requires-clause-few g c =
    let n = few_led c.requires.follows.4 in
    omega arith

pub returns-clause-on : goal.returns-clause-on
returns-clause-on g c =
    ap (λ v. v.at.fate) c.begin_lead.ensures ∙ (follows_now c.requires.follows.4).on

pub returns-clause-steps : goal.returns-clause-steps
returns-clause-steps g c = takes_by_steps (stations_of c.args.room.now) c.args.reader c.take-lead.result c.take-lead.ensures.view
