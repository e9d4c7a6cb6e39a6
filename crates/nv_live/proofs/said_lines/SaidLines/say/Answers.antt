use Rattle.std.proofs.Common.{◌≡◌, ◌∙◌, List, [], ℕ, ap, refl, sym, subst, ⊎_elim}
use Rattle.nv_script.specs.ArrivalViews.{said_view}
use Rattle.nv_live.specs.Lines.{line_with, lines_with}
use Rattle.nv_live.specs.SaidLines.{head_of, said_lines}
use Rattle.nv_live.proofs.Noting.{writes-is}
use Rattle.nv_live.proofs.said_lines.SaidLines.say.Goals as goal

pub returns-in-Sent-clause-lines : goal.returns-in-Sent-clause-lines
returns-in-Sent-clause-lines g c =
    let bytes : List ℕ = c.in-Sent.bytes.now in
    let said : lines_with (head_of (said_view c.args.said.now)) bytes ≡ said_lines (said_view c.args.said.now) =
    ⊎_elim (λ is. subst (λ s. lines_with (head_of (said_view s)) bytes ≡ said_lines (said_view s)) (sym is.1) refl)
    (λ is. subst (λ s. lines_with (head_of (said_view s)) bytes ≡ said_lines (said_view s)) (sym is) refl) c.in-Sent.is in
    writes-is g.O.Sink.told g.O.Sink.faults c.args.self.now.writer c.write_lines.new.writer _ _
    (ap (λ head. lines_with head bytes) (c.deref-in-Sent.ensures.0 ∙ c.put_head.ensures.text) ∙ said) c.write_lines.ensures.text

pub returns-in-Accepted-clause-lines : goal.returns-in-Accepted-clause-lines
returns-in-Accepted-clause-lines g c =
    let said : line_with (head_of (said_view c.args.said.now)) [] ≡ said_lines (said_view c.args.said.now) =
    ⊎_elim (λ is. subst (λ s. line_with (head_of (said_view s)) [] ≡ said_lines (said_view s)) (sym is.1) refl)
    (λ is. subst (λ s. line_with (head_of (said_view s)) [] ≡ said_lines (said_view s)) (sym is.1) refl) c.in-Accepted.is in
    writes-is g.O.Sink.told g.O.Sink.faults c.args.self.now.writer c.write_line.new.writer _ _
    (ap (λ head. line_with head []) (c.deref.ensures.0 ∙ c.put_head.ensures.text) ∙ said) c.write_line.ensures.text
