use Rattle.std.proofs.Common.{◌≡◌, ◌∙◌, sym, ap, subst, ◌<◌, ◌+◌, ◌∷◌, [], ◌++◌, length, arith}
use Rattle.std.specs.Prelude.{vec_len, vec_capacity}
use Rattle.std.proofs.lemmas.List.{length_push}
use Rattle.nv_calls.specs.Tables.{Sparse, Ascends, Keeps, table_most}
use Rattle.nv_calls.proofs.Keeping.{ascends-push, keeps-push}
use Rattle.nv_calls.proofs.Most.{table-inside, table-more}
use Rattle.nv_calls.proofs.table.Table.push.Goals as goal

pub push_reserved-requires : goal.push_reserved-requires
push_reserved-requires g c =
    let i = c.self.inside in
    (table-inside i.count (vec_len i.numbers) (vec_capacity i.numbers) (vec_capacity i.kept) _ c.self.invariant.5 c.self.invariant.0
    (subst (λ (t : Sparse g.row.T.Denot). length t.items < t.most) (sym c.self.view_is) c.requires)).0

pub push_reserved-requires-2 : goal.push_reserved-requires-2
push_reserved-requires-2 g c =
    let i = c.self.inside in
    let few = (table-inside i.count (vec_len i.numbers) (vec_capacity i.numbers) (vec_capacity i.kept) _ c.self.invariant.5 c.self.invariant.0
    (subst (λ (t : Sparse g.row.T.Denot). length t.items < t.most) (sym c.self.view_is) c.requires)).1 in
    let same = c.self.invariant.2.as_many in
    omega (arith, few, same, c.self.invariant.3, c.self.invariant.4)

pub overflow_add-self : goal.overflow_add-self
overflow_add-self g c =
    let i = c.self.inside in
    let few = (table-inside i.count (vec_len i.numbers) (vec_capacity i.numbers) (vec_capacity i.kept) _ c.self.invariant.5 c.self.invariant.0
    (subst (λ (t : Sparse g.row.T.Denot). length t.items < t.most) (sym c.self.view_is) c.requires)).2 in
    record { fits = omega (arith, few) }

pub invariant_of-self : goal.invariant_of-self
invariant_of-self g c =
    let i = c.self.inside in
    let v = c.self.invariant in
    let few = (table-inside i.count (vec_len i.numbers) (vec_capacity i.numbers) (vec_capacity i.kept) _ v.5 v.0
    (subst (λ (t : Sparse g.row.T.Denot). length t.items < t.most) (sym c.self.view_is) c.requires)).2 in
    let long = ap length c.and-self-inside.ensures ∙ length_push i.whole.items c.args.one in
    let numbers = ap length c.push_reserved.ensures.items ∙ length_push i.numbers.items i.count in
    let kept = ap length c.push_reserved-2.ensures.items ∙ length_push i.kept.items c.args.one in
    let held = keeps-push i.whole.items i.numbers.items i.kept.items c.args.one (subst (λ n. Ascends n i.numbers.items) v.0 v.1) v.2 in (
      omega (arith, v.0, long),
      subst (Ascends (i.count + 1)) (sym c.push_reserved.ensures.items) (ascends-push i.count i.numbers.items v.1),
      subst (λ xs. Keeps xs c.push_reserved.new.self.items c.push_reserved-2.new.self.items) (sym c.and-self-inside.ensures)
          (subst (λ ns. Keeps (i.whole.items ++ c.args.one ∷ []) ns c.push_reserved-2.new.self.items) (ap (λ n. i.numbers.items ++ n ∷ []) (sym v.0) ∙ sym c.push_reserved.ensures.items)
          (subst (Keeps (i.whole.items ++ c.args.one ∷ []) _) (sym c.push_reserved-2.ensures.items) held)),
      omega (arith, numbers, v.3, c.push_reserved.ensures.len),
      omega (arith, kept, v.4, c.push_reserved-2.ensures.len),
      omega (arith, c.push_reserved.ensures.len, v.5),
      omega (arith, few),
    )

pub returns-clause-most : goal.returns-clause-most
returns-clause-most g c =
    let i = c.self.inside in
    subst (λ (t : Sparse g.row.T.Denot). table_most (i.count + 1) (vec_len c.push_reserved.new.self) (vec_capacity c.push_reserved.new.self) (vec_capacity c.push_reserved-2.new.self) ≡ t.most) c.self.view_is
    (table-more i.count (vec_len i.numbers) (vec_capacity i.numbers) (vec_capacity i.kept) _ _ _ c.self.invariant.5 c.push_reserved.ensures.len c.push_reserved.ensures.capacity c.push_reserved-2.ensures.capacity)
