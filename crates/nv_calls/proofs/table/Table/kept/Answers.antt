use Rattle.std.proofs.Common.{◌≡◌, ◌∙◌, subst, length}
use Rattle.nv_calls.specs.Tables.{Sparse, Ascends}
use Rattle.nv_calls.proofs.Keeping.{keeps-all}
use Rattle.nv_calls.proofs.table.Table.kept.Goals as goal

pub returns-clause-all : goal.returns-clause-all
returns-clause-all g c = let i = c.self.inside in subst (λ (t : Sparse g.row.T.Denot). length t.numbers ≡ length t.items → c.as_slice.result.now ≡ t.items) c.self.view_is
    (λ all. c.as_slice.ensures.value ∙ keeps-all i.whole.items i.numbers.items i.kept.items (subst (λ n. Ascends n i.numbers.items) c.self.invariant.0 c.self.invariant.1) c.self.invariant.2 all)
