use Rattle.std.proofs.Common.{Ok, Err, ◌∙◌, sym, ap}
use Rattle.std.proofs.lemmas.Result.{err_from_is_err_and}
use Rattle.nv_bytes.specs.Lines.{LinesLeft}
use Rattle.nv_bpf.proofs.OpTexts.{ops_of_text-none, ops_of_text-count}
use Rattle.nv_bpf.proofs.reading.read_text.Goals as goal

pub returns-in_default-clause-fault : goal.returns-in_default-clause-fault
returns-in_default-clause-fault c _ = ops_of_text-none _ c.args.text.now (sym (ap (λ (s : LinesLeft). s.left) c.of-lines.ensures) ∙ c.in_default.ensures.steps.0)

pub returns-in_err-count-clause-fault : goal.returns-in_err-count-clause-fault
returns-in_err-count-clause-fault c =
    let first = sym (ap (λ (s : LinesLeft). s.left) c.of-lines.ensures) ∙ c.in-Some.ensures.steps.first in
    let p = err_from_is_err_and c.from_residual.result c.from_residual.ensures.1 in
    rw (p.1, p.2) (λ _. ops_of_text-count _ c.args.text.now c.in-Some.first.now c.next.new.self.left (Err c.in_err-count.field-0.0) first c.in_err-count.ensures)

pub returns-in_err-ops-clause-fault : goal.returns-in_err-ops-clause-fault
returns-in_err-ops-clause-fault c =
    let first = sym (ap (λ (s : LinesLeft). s.left) c.of-lines.ensures) ∙ c.in-Some.ensures.steps.first in
    let p = err_from_is_err_and c.from_residual-in_err-ops.result c.from_residual-in_err-ops.ensures.1 in
    rw (p.1, p.2)
    (λ named. ops_of_text-count _ c.args.text.now c.in-Some.first.now c.next.new.self.left (Ok c.in_ok-count.count) first c.in_ok-count.ensures ∙ c.in_err-ops.ensures.fault named)

pub returns-clause-ops : goal.returns-clause-ops
returns-clause-ops c =
    let first = sym (ap (λ (s : LinesLeft). s.left) c.of-lines.ensures) ∙ c.in-Some.ensures.steps.first in
    ops_of_text-count _ c.args.text.now c.in-Some.first.now c.next.new.self.left (Ok c.in_ok-count.count) first c.in_ok-count.ensures ∙ c.in_ok-ops.ensures.ops
