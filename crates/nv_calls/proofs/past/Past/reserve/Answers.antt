use Rattle.std.proofs.Common.{◌≤◌, ◌+◌, subst, length, arith}
use Rattle.std.specs.Prelude.{vec_capacity}
use Rattle.nv_calls.specs.Known.{Known, most_of}
use Rattle.nv_calls.proofs.Most.{most-grows, most-holds}
use Rattle.nv_calls.proofs.past.Past.reserve.Goals as goal

pub returns-clause-most : goal.returns-clause-most
returns-clause-most g c = subst (λ (p : Known g.row.T.Denot). p.most ≤ most_of c.self.inside.gone (vec_capacity c.reserve.new.self)) c.self.view_is
    (most-grows _ _ _ _ (omega (arith, c.reserve.ensures.capacity)))

pub returns-in_err-reserve-clause-most : goal.returns-in_err-reserve-clause-most
returns-in_err-reserve-clause-most g c = subst (λ (p : Known g.row.T.Denot). p.most ≤ most_of c.self.inside.gone (vec_capacity c.reserve.new.self)) c.self.view_is
    (most-grows _ _ _ _ (omega (arith, c.reserve.ensures.capacity)))

pub returns-clause-ok : goal.returns-clause-ok
returns-clause-ok g c =
    let i = c.self.inside in
    let few = c.if-more-self.false in
    most-holds i.gone (vec_capacity c.reserve.new.self) (length i.whole.items + c.args.more)
    (omega (arith, c.in_ok-reserve.ensures.ok, c.reserve.ensures.len, c.self.invariant.1)) (omega (arith, few, c.len.ensures, c.self.invariant.1, c.self.invariant.2))
