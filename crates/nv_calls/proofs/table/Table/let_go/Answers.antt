use Rattle.std.proofs.Common.{sym, ap, subst, ◌<◌, ◌≤◌, length, arith}
use Rattle.std.specs.Prelude.{vec_len, vec_capacity}
use Rattle.std.proofs.lemmas.List.Edits.{length-remove}
use Rattle.nv_calls.specs.Tables.{Sparse, Ascends, Keeps, table_most}
use Rattle.nv_calls.proofs.Keeping.{ascends-remove, keeps-remove}
use Rattle.nv_calls.proofs.Most.{table-grows}
use Rattle.nv_calls.proofs.table.Table.let_go.Goals as goal

pub invariant_of-self : goal.invariant_of-self
invariant_of-self g c =
    let i = c.self.inside in
    let v = c.self.invariant in
    let here : c.args.place < length i.numbers.items = subst (λ (t : Sparse g.row.T.Denot). c.args.place < length t.numbers) (sym c.self.view_is) c.requires in
    let within : c.args.place < length i.kept.items = (let same = v.2.as_many in omega (arith, here, same)) in
    let numbers = ap length c.remove.ensures.items in
    let kept = ap length c.remove-2.ensures.items in
    let fewer = length-remove i.numbers.items c.args.place here in
    let fewer' = length-remove i.kept.items c.args.place within in (
      v.0,
      subst (Ascends i.count) (sym c.remove.ensures.items) (ascends-remove i.count i.numbers.items c.args.place here v.1),
      subst (λ ns. Keeps i.whole.items ns c.remove-2.new.self.items) (sym c.remove.ensures.items)
          (subst (Keeps i.whole.items _) (sym c.remove-2.ensures.items) (keeps-remove i.whole.items i.numbers.items i.kept.items c.args.place here v.2)),
      omega (arith, numbers, fewer, v.3, c.remove.ensures.len),
      omega (arith, kept, fewer', v.4, c.remove-2.ensures.len),
      omega (arith, c.remove.ensures.len, v.5),
      v.6,
    )

pub returns-clause-most : goal.returns-clause-most
returns-clause-most g c = subst (λ (t : Sparse g.row.T.Denot). t.most ≤ table_most c.self.inside.count (vec_len c.remove.new.self) (vec_capacity c.remove.new.self) (vec_capacity c.remove-2.new.self)) c.self.view_is
    (table-grows _ _ _ _ _ _ _ (omega (arith, c.remove.ensures.len)) (omega (arith, c.remove.ensures.capacity)) (omega (arith, c.remove-2.ensures.capacity)))
