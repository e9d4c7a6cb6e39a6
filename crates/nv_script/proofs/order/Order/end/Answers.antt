use Rattle.std.proofs.Common.{◌≡◌, ◌<◌, ℕ, List, length, get_or, sym, ap, subst, ◌∙◌}
use Rattle.nv_script.specs.Order.{Came, without}
use Rattle.nv_script.specs.inner.Going.{AreGoing}
use Rattle.nv_script.proofs.Going.{removed, still_going, ended}
use Rattle.nv_script.proofs.order.Order.end.Goals as goal

left : (c : goal.After-remove) → c.remove.new.self.items ≡ without c.args.client c.self.inside.going.items
left c =
    let going = ap (λ (came : Came). came.going) (sym c.self.view_is) in
    let within : c.in-Some.at < length c.self.inside.going.items = subst (λ (xs : List ℕ). c.in-Some.at < length xs) going c.in-Some.ensures.place.0 in
    let here : get_or c.self.inside.going.items c.in-Some.at 0 ≡ c.args.client = subst (λ (xs : List ℕ). get_or xs c.in-Some.at 0 ≡ c.args.client) going c.in-Some.ensures.place.1 in
    c.remove.ensures.items ∙ removed c.self.inside.going.items c.args.client c.in-Some.at c.self.invariant.rising within here

pub invariant_of-self : goal.invariant_of-self
invariant_of-self c = subst (AreGoing c.self.inside.clients) (sym (left c)) (still_going c.self.inside.clients c.self.inside.going.items c.args.client c.self.invariant)

pub returns-in-Some-clause-ended : goal.returns-in-Some-clause-ended
returns-in-Some-clause-ended c = ended _ c.args.self.now c.remove.new.self.items c.args.client c.self.view_is (left c) c.in-Some.ensures.going
