use Rattle.std.proofs.Common.{None, Some, Ok, inl, inr, sym, ap, ◌+◌, ◌∙◌}
use Rattle.std.proofs.lemmas.Result.{err_from_is_err_and}
use Rattle.nv_bytes.specs.Lines.{LinesLeft}
use Rattle.nv_script.specs.Scripts.{blank, drafted, finished_result}
use Rattle.nv_script.proofs.Sound.{script_of-keeps}
use Rattle.nv_script.proofs.Drafting.{script_of-none, script_of-line}
use Rattle.nv_script.proofs.reading.read.Goals as goal

pub returns-in_default-clause-fault : goal.returns-in_default-clause-fault
returns-in_default-clause-fault c = inr (script_of-none c.args.bytes.now (sym (ap (λ (s : LinesLeft). s.left) c.of-lines.ensures) ∙ c.in_default.ensures.steps.0))

pub returns-in_default-form_of-clause-fault : goal.returns-in_default-form_of-clause-fault
returns-in_default-form_of-clause-fault c =
    let first = sym (ap (λ (s : LinesLeft). s.left) c.of-lines.ensures) ∙ c.in-Some.ensures.steps.first in
    inr (script_of-line c.args.bytes.now _ _ None first (sym c.form_of.ensures ∙ c.in_default-form_of.is))

pub returns-in_err-draft-clause-fault : goal.returns-in_err-draft-clause-fault
returns-in_err-draft-clause-fault c =
    let next = c.in-Some.ensures.steps in
    let first = sym (ap (λ (s : LinesLeft). s.left) c.of-lines.ensures) ∙ next.first in
    let second = next.further ∙ ap (λ (s : LinesLeft). s.before + 1) c.of-lines.ensures in
    let p = err_from_is_err_and c.from_residual.result c.from_residual.ensures.1 in
    let started = script_of-line c.args.bytes.now _ _ (Some c.in-Some-form_of.form) first (sym c.form_of.ensures ∙ c.in-Some-form_of.is) in
    rw (p.1, p.2) (elim c.in_err-draft.ensures.fault [
      | inl memory ↦ inl memory
      | inr refused ↦ inr (started ∙ ap (finished_result c.in-Some-form_of.form) (ap (λ n. drafted c.in-Some-form_of.form n c.next.new.self.left (blank c.in-Some-form_of.form)) (sym second) ∙ refused))
    ])

pub returns-clause-script : goal.returns-clause-script
returns-clause-script c =
    let next = c.in-Some.ensures.steps in
    let first = sym (ap (λ (s : LinesLeft). s.left) c.of-lines.ensures) ∙ next.first in
    let second = next.further ∙ ap (λ (s : LinesLeft). s.before + 1) c.of-lines.ensures in
    script_of-line c.args.bytes.now _ _ (Some c.in-Some-form_of.form) first (sym c.form_of.ensures ∙ c.in-Some-form_of.is)
    ∙ ap (finished_result c.in-Some-form_of.form) (ap (λ n. drafted c.in-Some-form_of.form n c.next.new.self.left (blank c.in-Some-form_of.form)) (sym second) ∙ c.in_ok-draft.ensures.draft) ∙ ap Ok (sym c.finish.ensures)

pub returns-clause-sound : goal.returns-clause-sound
returns-clause-sound c = script_of-keeps c.args.bytes.now _ (returns-clause-script c)
