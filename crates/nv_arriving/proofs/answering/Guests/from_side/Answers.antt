use Rattle.std.proofs.Common.{◌≡◌, sym, ap, subst, List, [], map}
use Rattle.nv_script.specs.Scripts.{Setup}
use Rattle.nv_script.specs.Views.{setup_of}
use Rattle.nv_script.specs.Arrivals.{Arrival}
use Rattle.nv_script.specs.ArrivalViews.{view as arrival_of}
use Rattle.nv_arriving.specs.Telling.{Tells}
use Rattle.nv_arriving.proofs.Standings.{stands_first}
use Rattle.nv_arriving.proofs.Told.{told_first}
use Rattle.nv_arriving.proofs.answering.Guests.from_side.Goals as goal

pub returns-clause-stands : goal.returns-clause-stands
returns-clause-stands g c =
    let begun : g.row.O.Denot = c.of-begun.result.value in
    let setup : Setup = setup_of c.args.script.now in
    let none : map arrival_of c.new.result.items ≡ [] = ap (map arrival_of) c.new.ensures.items in
    stands_first g.O.Outside.did g.O.Outside.is_over setup [] _ (λ i. record { here = c.requires.first i; rest = none i }) none (λ o. cc)
    (subst (λ (z : g.row.O.Denot). Tells g.O.Outside.did begun z setup (map arrival_of c.new.result.items) []) c.of-begun.ensures
    (subst (λ (z : List Arrival). Tells g.O.Outside.did begun begun setup z []) (sym none) (told_first g.O.Outside.did begun setup)))
