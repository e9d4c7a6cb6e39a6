use Rattle.std.proofs.Common.{sym, subst, drop, map, List}
use Rattle.nv_script.specs.Arrivals.{Arrival}
use Rattle.nv_script.specs.ArrivalViews.{view as arrival_of}
use Rattle.nv_arriving.specs.Kernel.{Coming}
use Rattle.nv_arriving.specs.Standing.{StandsAt}
use Rattle.nv_arriving.specs.Telling.{HasHanded}
use Rattle.nv_arriving.specs.Views.{standing_of, room_of}
use Rattle.nv_arriving.proofs.Standings.{stands_asked}
use Rattle.nv_arriving.proofs.Told.{handed_asked}
use Rattle.nv_arriving.proofs.answering.GuestsAnswers.hands_over.Goals as goal

pub returns-clause-stands : goal.returns-clause-stands
returns-clause-stands g c = λ setup log s.
    let came : List Arrival = map arrival_of c.self.inside.came.items in
    let was : Coming g.row.O.Denot = record {
      stage = record { here = standing_of c.self.inside.side; rest = drop c.self.inside.used came };
      begun = c.self.inside.begun.value;
      outside = c.self.inside.outside;
      came = came;
      intake = c.self.inside.intake;
      over = c.self.inside.over;
      keeps = c.self.inside.keeps;
      room = room_of c.self.inside.side;
    } in
    stands_asked g.O.Outside.did g.O.Outside.is_over was c.hands_over.new.self c.hands_over.result _ c.hands_over.ensures.told c.hands_over.ensures.stays setup log
    (subst (λ (k : Coming g.row.O.Denot). StandsAt g.O.Outside.did g.O.Outside.is_over k setup log) (sym c.self.view_is) s)

pub returns-clause-handed : goal.returns-clause-handed
returns-clause-handed g c = λ setup log lengths h.
    handed_asked g.O.Outside.did c.self.inside.begun.value setup (map arrival_of c.self.inside.came.items) log c.self.inside.outside c.hands_over.new.self c.hands_over.result _ c.hands_over.ensures.told lengths
    (subst (λ (k : Coming g.row.O.Denot). HasHanded g.O.Outside.did k.begun k.outside setup k.came log lengths) (sym c.self.view_is) h)
