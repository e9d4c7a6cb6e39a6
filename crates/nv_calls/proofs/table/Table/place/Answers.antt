use Rattle.std.proofs.Common.{◌≡◌, ◌∙◌, sym, ap, subst, ℕ, ◌<◌, Some, None, length, slice_index}
use Rattle.nv_calls.specs.Tables.{Sparse, Ascends}
use Rattle.nv_calls.proofs.Keeping.{number-is, found, not-found}
use Rattle.nv_calls.proofs.table.Table.place.Goals as goal

pub returns-in-Ok-clause-all : goal.returns-in-Ok-clause-all
returns-in-Ok-clause-all g c =
    let ns = c.as_slice-numbers.result.now in
    let value = c.as_slice-numbers.ensures.value in
    let ascends = subst (Ascends c.self.inside.count) (sym value) c.self.invariant.1 in
    subst (λ (t : Sparse g.row.T.Denot). length t.numbers ≡ length t.items → c.args.number < length t.items → Some c.in-Ok.place ≡ Some c.args.number) c.self.view_is
    (λ all few. ap Some (sym (number-is c.self.inside.count ns ascends (ap length value ∙ all ∙ sym c.self.invariant.0) c.in-Ok.place c.in-Ok.ensures.bound)
    ∙ found c.self.inside.count ns c.args.number c.in-Ok.place ascends c.in-Ok.ensures.position))

pub returns-in-Err-clause-gone : goal.returns-in-Err-clause-gone
returns-in-Err-clause-gone g c =
    let value = c.as_slice-numbers.ensures.value in
    let ascends = subst (Ascends c.self.inside.count) (sym value) c.self.invariant.1 in
    subst (λ (t : Sparse g.row.T.Denot). (p : ℕ) → p < length t.numbers → slice_index t.numbers p ≡ c.args.number → ⊥) c.self.view_is
    (subst (λ ns. (p : ℕ) → p < length ns → slice_index ns p ≡ c.args.number → ⊥) value
    (not-found c.self.inside.count c.as_slice-numbers.result.now c.args.number c.in-Err.field-0 ascends c.in-Err.ensures.position))

pub returns-in-Err-clause-all : goal.returns-in-Err-clause-all
returns-in-Err-clause-all g c =
    let ns = c.as_slice-numbers.result.now in
    let value = c.as_slice-numbers.ensures.value in
    let ascends = subst (Ascends c.self.inside.count) (sym value) c.self.invariant.1 in
    subst (λ (t : Sparse g.row.T.Denot). length t.numbers ≡ length t.items → c.args.number < length t.items → None ≡ Some c.args.number) c.self.view_is
    (λ all few.
    let all' = ap length value ∙ all in
    let inside = subst (λ n. c.args.number < n) (sym all') few in
    absurd (not-found c.self.inside.count ns c.args.number c.in-Err.field-0 ascends c.in-Err.ensures.position c.args.number inside
    (number-is c.self.inside.count ns ascends (all' ∙ sym c.self.invariant.0) c.args.number inside)))

pub returns-in-Some-clause-all : goal.returns-in-Some-clause-all
returns-in-Some-clause-all g c =
    let ns = c.as_slice-numbers.result.now in
    let value = c.as_slice-numbers.ensures.value in
    let ascends = subst (Ascends c.self.inside.count) (sym value) c.self.invariant.1 in
    subst (λ (t : Sparse g.row.T.Denot). length t.numbers ≡ length t.items → c.args.number < length t.items → Some c.in-Some.place ≡ Some c.args.number) c.self.view_is
    (λ all few. ap Some (sym (number-is c.self.inside.count ns ascends (ap length value ∙ all ∙ sym c.self.invariant.0) c.in-Some.place c.in-Some.ensures.0) ∙ c.in-Some.ensures.1))
