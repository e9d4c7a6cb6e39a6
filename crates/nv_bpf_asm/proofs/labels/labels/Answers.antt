use Rattle.std.proofs.Common.{◌≡◌, ℕ, ◌+◌, List, option_map, sym, ap, ◌∙◌, arith}
use Rattle.nv_bytes.specs.Lines.{lines, Parts, LinesLeft}
use Rattle.nv_bytes.specs.Names.{defining}
use Rattle.nv_bpf_asm.specs.declared.label.Label.{Label}
use Rattle.nv_bpf_asm.specs.Assembled.{labels, count, word_count}
use Rattle.nv_bpf_asm.proofs.Naming.{found, found-defined, labels-line, labels-none, word_count-le, found-none, found-all}
use Rattle.nv_bpf_asm.proofs.labels.labels.Goals as goal
use Rattle.nv_bpf_asm.proofs.labels.labels.Goals.{in-Some-label+in_ok-define, in_default}

pub loop-line-init : goal.loop-line-init
loop-line-init c =
    let begins = c.into_iter-line-iterator.ensures.into_iter_gives ∙ c.of-line-items.ensures in
    record {
      named = λ name. ap (λ (s : LinesLeft). found c.new-names.result (labels s.before 0 s.left) name) begins ∙ found-none c.new-names.result (labels 0 0 (lines c.args.text.now)) name c.new-names.ensures;
      few = omega arith;
    }

pub loop-line-preserved : goal.loop-line-preserved
loop-line-preserved c =
    let names = c.loop-line.names in
    let next = c.in-Some.ensures.steps in
    let line = c.in-Some.content.now in
    let here : Label = record { line = c.in-Some.line; place = c.loop-line.place } in
    let left = c.next.new.self in
    let later = labels left.before (c.loop-line.place + c.word_count-place.result) left.left in
    let counted : count line ≡ c.word_count-place.result = sym (c.word_count-place.ensures ∙ ap (λ (p : Parts). word_count p.word) c.line_parts-parts.ensures) in
    let label_is = sym (ap (λ (p : Parts). p.label) c.line_parts-parts.ensures) in
    let all = labels-line c.loop-line.line-iterator left c.in-Some.line c.loop-line.place line next
    ∙ ap (λ l. defining l here (labels left.before (c.loop-line.place + count line) left.left)) label_is
    ∙ ap (λ k. defining (option_map (λ l. l.now) c.line_parts-parts.result.label) here (labels left.before (c.loop-line.place + k) left.left)) counted in
    let step : (name : List ℕ) → found names (defining (option_map (λ l. l.now) c.line_parts-parts.result.label) here later) name ≡ found c.match-parts.names later name =
    (λ name. elim c.match-parts.branch [
      | in-Some-label+in_ok-define w ↦ ap (λ o. found names (defining (option_map (λ l. l.now) o) here later) name) w.in-Some-label.is
          ∙ found-defined names w.define.new.self later w.in-Some-label.name.now name here w.in_ok-define.ensures.ok ∙ ap (λ ns. found ns later name) (sym w.names-is)
      | in_default w ↦ ap (λ o. found names (defining (option_map (λ l. l.now) o) here later) name) w.in_default.is ∙ ap (λ ns. found ns later name) (sym w.names-is)
    ]) in
    record {
      named = λ name. sym (step name) ∙ ap (λ ls. found names ls name) (sym all) ∙ c.loop-line.invariant.named name;
      few = omega (arith, word_count-le c.line_parts-parts.result.word.now, next.further, c.loop-line.invariant.few);
    }

pub returns : goal.returns
returns c name =
    sym (found-all c.loop-line.names _ name (labels-none c.loop-line.line-iterator.before c.loop-line.place c.loop-line.line-iterator.left c.in-None.ensures.steps.0)) ∙ c.loop-line.invariant.named name
