use Rattle.std.proofs.Common.{ap}
use Rattle.nv_workers.proofs.Moving.{leads_now, may_now, led_now, gives_lead}
use Rattle.nv_workers.proofs.worker.give_lead.Goals as goal

pub end_lead-requires : goal.end_lead-requires
end_lead-requires g c =
    leads_now c.requires.leads.3

pub hand-requires-clause-may : goal.hand-requires-clause-may
hand-requires-clause-may g c κs within =
    may_now c.requires.leads.3

pub hand-requires-clause-led : goal.hand-requires-clause-led
hand-requires-clause-led g c κs within =
    led_now c.requires.leads.3

pub hand-requires-clause-asked : goal.hand-requires-clause-asked
hand-requires-clause-asked g c κs within =
    c.requires.leads.3.asks

pub returns-clause-follows : goal.returns-clause-follows
returns-clause-follows g c = λ judges most p buf f.
    let h = c.hand.ensures in
    gives_lead f c.hand.result c.end_lead.new.self buf h.of h.station.1 (ap (λ w. w.seen) h.view) h.read (ap (λ w. w.spans) h.view) c.end_lead.ensures
