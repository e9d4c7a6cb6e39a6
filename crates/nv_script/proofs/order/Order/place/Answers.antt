use Rattle.std.proofs.Common.{ℕ, List, Ok, Err, sym, ap, subst, ◌∙◌}
use Rattle.std.specs.List.Sorted.{IsBinarySearchResult}
use Rattle.std.specs.Ordering.{nat_cmp}
use Rattle.nv_script.specs.Order.{Came, is_going}
use Rattle.nv_script.proofs.Going.{goes_there, goes_nowhere}
use Rattle.nv_script.proofs.order.Order.place.Goals as goal

pub returns-in-Ok-clause-going : goal.returns-in-Ok-clause-going
returns-in-Ok-clause-going c =
    let found : IsBinarySearchResult (λ y. nat_cmp y c.args.client) c.self.inside.going.items (Ok c.in-Ok.at) =
    subst (λ (xs : List ℕ). IsBinarySearchResult (λ y. nat_cmp y c.args.client) xs (Ok c.in-Ok.at)) c.deref.ensures.value c.in-Ok.ensures.position in
    sym (ap (λ (came : Came). is_going c.args.client came.going) (sym c.self.view_is) ∙ goes_there c.self.inside.clients c.self.inside.going.items c.args.client c.in-Ok.at c.self.invariant found)

pub returns-in-Err-clause-going : goal.returns-in-Err-clause-going
returns-in-Err-clause-going c =
    let found : IsBinarySearchResult (λ y. nat_cmp y c.args.client) c.self.inside.going.items (Err c.in-Err.field-0) =
    subst (λ (xs : List ℕ). IsBinarySearchResult (λ y. nat_cmp y c.args.client) xs (Err c.in-Err.field-0)) c.deref.ensures.value c.in-Err.ensures.position in
    sym (ap (λ (came : Came). is_going c.args.client came.going) (sym c.self.view_is) ∙ goes_nowhere c.self.inside.clients c.self.inside.going.items c.args.client c.in-Err.field-0 c.self.invariant found)
