use Rattle.std.proofs.Common.{◌+◌, ◌^◌, ap, sym, ◌∙◌, arith}
use Rattle.nv_bytes.specs.Lines.{lines, LinesLeft}
use Rattle.nv_asm.specs.declared.place.Reached.{Reached}
use Rattle.nv_asm.specs.inner.Known.{defined_among}
use Rattle.nv_asm.specs.Places.{Placed, placed, placed_line, after, nothing_reached, ended}
use Rattle.nv_asm.proofs.Passing.{names_of, weight, found-none, found-all, knows-none, names-line, names-none, ended-line, ended-none, weight-line, filled-small}
use Rattle.nv_asm.proofs.labels.labels.Goals as goal

pub loop-line-init : goal.loop-line-init
loop-line-init c =
    let begins = c.into_iter-line-iterator.ensures.into_iter_gives ∙ c.of-line-items.ensures in
    record {
      named = λ name. ap (λ (s : LinesLeft). defined_among c.new-names.result (names_of (placed s.before nothing_reached s.left)) name) begins ∙ found-none c.new-names.result (names_of (placed 0 nothing_reached (lines c.args.text.now))) name c.new-names.ensures;
      places = knows-none c.new-names.result (2 ^ 121) c.new-names.ensures;
      ends = ap (λ (s : LinesLeft). ended nothing_reached (placed s.before nothing_reached s.left)) begins;
      filled = omega (arith, ap (λ (s : LinesLeft). weight s.left) begins);
    }

pub take_up-requires : goal.take_up-requires
take_up-requires c = filled-small c.loop-line.reached c.args.text.now c.loop-line.line-iterator.left c.loop-line.invariant.filled (omega arith)

pub loop-line-preserved : goal.loop-line-preserved
loop-line-preserved c =
    let n = c.in-Some.line in
    let next = c.in-Some.ensures.steps in
    let left = c.next.new.self in
    let before = c.loop-line.reached in
    let first = c.in-Some.content.now in
    let p : Placed = placed_line n before first in
    let now = c.in_ok-reached.ensures in
    let filled = ap (λ (r : Reached). r.text_len + r.data_len) now.reached in
    record {
      named = λ name.
          ap (λ r. defined_among c.take_up.new.names (names_of (placed left.before r left.left)) name) now.reached
          ∙ sym (now.known (names_of (placed left.before (after p) left.left)) name)
          ∙ ap (λ ls. defined_among c.loop-line.names ls name) (sym (names-line c.loop-line.line-iterator left n before first next))
          ∙ c.loop-line.invariant.named name;
      places = now.below c.loop-line.invariant.places;
      ends = ap (λ r. ended r (placed left.before r left.left)) now.reached ∙ sym (ended-line c.loop-line.line-iterator left n before first next) ∙ c.loop-line.invariant.ends;
      filled = omega (arith, weight-line c.loop-line.line-iterator left n before first next now.small, filled, c.loop-line.invariant.filled);
    }

pub returns-clause-names : goal.returns-clause-names
returns-clause-names c name =
    sym (found-all c.loop-line.names _ name (names-none c.loop-line.line-iterator.before c.loop-line.reached c.loop-line.line-iterator.left c.in-None.ensures.steps.0)) ∙ c.loop-line.invariant.named name

pub returns-clause-text_len : goal.returns-clause-text_len
returns-clause-text_len c =
    ap (λ (r : Reached). r.text_len) (sym (ended-none c.loop-line.line-iterator.before c.loop-line.reached c.loop-line.line-iterator.left c.in-None.ensures.steps.0) ∙ c.loop-line.invariant.ends)

pub returns-clause-within : goal.returns-clause-within
returns-clause-within c =
    let small = filled-small c.loop-line.reached c.args.text.now c.loop-line.line-iterator.left c.loop-line.invariant.filled (omega arith) in
    record { text = small.text; places = c.loop-line.invariant.places }
