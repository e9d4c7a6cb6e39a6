use Rattle.std.proofs.Common.{Ok, Err, inr, sym, ap, ◌∙◌}
use Rattle.nv_bytes.specs.Lines.{line_number}
use Rattle.nv_script.specs.declared.fault.ScriptFault.TheVariants as fault
use Rattle.nv_script.specs.Scripts.{drafted}
use Rattle.nv_script.specs.inner.Views.{became}
use Rattle.nv_script.proofs.Drafting.{drafted-line, drafted-none}
use Rattle.nv_script.proofs.reading.draft_of.Goals as goal

pub returns-in-Err-clause-fault : goal.returns-in-Err-clause-fault
returns-in-Err-clause-fault c =
    let lines = c.loop-before.before-iterator in
    let next = c.in-Some.ensures.steps in
    let refused = sym (ap (became c.add_line.new.draft) c.in-Err.is) ∙ c.in_ok-cause.ensures in
    inr (c.loop-before.invariant ∙ drafted-line c.args.form lines.before lines.left _ _ c.loop-before.draft (Err c.in-Err.cause) next.first refused
    ∙ ap (λ n. Err (fault.Line (line_number n) c.in-Err.cause)) (sym next.counted) ∙ ap (λ n. Err (fault.Line n c.in-Err.cause)) (sym c.line_number.ensures))

pub loop-before-preserved : goal.loop-before-preserved
loop-before-preserved c =
    let lines = c.loop-before.before-iterator in
    let next = c.in-Some.ensures.steps in
    let taken = sym (ap (became c.add_line.new.draft) c.in_default.is) ∙ c.in_ok-cause.ensures in
    c.loop-before.invariant ∙ drafted-line c.args.form lines.before lines.left _ _ c.loop-before.draft (Ok c.add_line.new.draft) next.first taken
    ∙ ap (λ n. drafted c.args.form n c.next.new.self.left c.add_line.new.draft) (sym next.further)

pub returns-clause-draft : goal.returns-clause-draft
returns-clause-draft c =
    let lines = c.loop-before.before-iterator in
    c.loop-before.invariant ∙ drafted-none c.args.form lines.before lines.left c.loop-before.draft c.in-None.ensures.steps.0
