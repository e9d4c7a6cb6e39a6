use Rattle.std.proofs.Common.{subst, ◌≤◌, ◌+◌, arith}
use Rattle.std.specs.Prelude.{vec_len, vec_capacity}
use Rattle.nv_calls.specs.Tables.{Sparse, table_most}
use Rattle.nv_calls.proofs.Most.{table-grows, table-holds}
use Rattle.nv_calls.proofs.table.Table.reserve.Goals as goal

pub returns-in_err-reserve-2-clause-most : goal.returns-in_err-reserve-2-clause-most
returns-in_err-reserve-2-clause-most g c = subst (λ (t : Sparse g.row.T.Denot). t.most ≤ table_most c.self.inside.count (vec_len c.reserve.new.self) (vec_capacity c.reserve.new.self) (vec_capacity c.reserve-2.new.self)) c.self.view_is
    (table-grows _ _ _ _ _ _ _ (omega (arith, c.reserve.ensures.len)) (omega (arith, c.reserve.ensures.capacity)) (omega (arith, c.reserve-2.ensures.capacity)))

pub returns-clause-most : goal.returns-clause-most
returns-clause-most g c = subst (λ (t : Sparse g.row.T.Denot). t.most ≤ table_most c.self.inside.count (vec_len c.reserve.new.self) (vec_capacity c.reserve.new.self) (vec_capacity c.reserve-2.new.self)) c.self.view_is
    (table-grows _ _ _ _ _ _ _ (omega (arith, c.reserve.ensures.len)) (omega (arith, c.reserve.ensures.capacity)) (omega (arith, c.reserve-2.ensures.capacity)))

pub returns-clause-ok : goal.returns-clause-ok
returns-clause-ok g c =
    let i = c.self.inside in
    let few = c.if-more-self.false in
    let v = c.self.invariant in
    let same = v.2.as_many in
    subst (λ n. n + c.args.more ≤ table_most i.count (vec_len c.reserve.new.self) (vec_capacity c.reserve.new.self) (vec_capacity c.reserve-2.new.self)) v.0
    (table-holds i.count (vec_len c.reserve.new.self) (vec_capacity c.reserve.new.self) (vec_capacity c.reserve-2.new.self) c.args.more
    (omega (arith, c.reserve.ensures.len, v.5))
    (omega (arith, c.in_ok-reserve.ensures.ok))
    (omega (arith, c.in_ok-reserve-2.ensures.ok, c.reserve.ensures.len, c.reserve-2.ensures.len, v.3, v.4, same))
    (omega (arith, few)))
