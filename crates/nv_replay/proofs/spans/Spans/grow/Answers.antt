use Rattle.std.proofs.Common.{◌≡◌, ◌∙◌, sym, ap, subst, ◌-◌, ◌<◌, ℕ, suc, List, length, Some, arith}
use Rattle.std.specs.Prelude.{slice_get}
use Rattle.std.proofs.lemmas.Option.{slice_get-get_or}
use Rattle.nv_replay.specs.Spans.{EndBy}
use Rattle.nv_replay.proofs.Spanning.{grown_at}
use Rattle.nv_replay.proofs.spans.Spans.grow.Goals as goal

pub overflow_add-index_mut : goal.overflow_add-index_mut
overflow_add-index_mut c =
    let last : c.len-count.result - 1 < length c.self.inside.held.items = omega (arith, c.len-count.ensures) in
    let at : slice_get c.self.inside.held.items (c.len-count.result - 1) ≡ Some c.index_mut.result.now =
    slice_get-get_or c.self.inside.held.items (c.len-count.result - 1) c.index_mut.result.now last ∙ ap Some (sym c.index_mut.ensures.value) in
    let ends = subst (λ (x : List (ℕ × ℕ)). EndBy 499999999 x) (sym c.self.view_is) c.requires in
    omega (arith, ends.each _ _ at)

pub returns-then-count-gt0 : goal.returns-then-count-gt0
returns-then-count-gt0 c =
    let one : suc (c.len-count.result - 1) ≡ length c.self.inside.held.items = omega (arith, c.len-count.ensures) in
    rw (← c.self.view_is) (grown_at c.self.inside.held.items (c.len-count.result - 1) c.index_mut.result.now one c.index_mut.ensures.value)
