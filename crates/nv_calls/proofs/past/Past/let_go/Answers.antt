use Rattle.std.proofs.Common.{◌≤◌, ◌+◌, subst, arith}
use Rattle.nv_calls.specs.Known.{Known, most_of}
use Rattle.nv_calls.proofs.Most.{most-grows}
use Rattle.nv_calls.proofs.past.Past.let_go.Goals as goal

pub returns-clause-most : goal.returns-clause-most
returns-clause-most g c = subst (λ (p : Known g.row.T.Denot). p.most ≤ most_of (c.self.inside.gone + c.len.result) (Rattle.std.specs.Vec.vec_capacity c.clear.new.self)) c.self.view_is
    (most-grows _ _ _ _ (omega (arith, c.clear.ensures.capacity)))
