use Rattle.std.proofs.Common.{◌≡◌, length, sym, ap, ◌∙◌, arith}
use Rattle.std.proofs.lemmas.Bool.Decides.{nat_tests}
use Rattle.nv_bytes.specs.Lines.{LinesLeft}
use Rattle.nv_bytes.proofs.Cutting.{lines-none}
use Rattle.nv_bytes.proofs.lines.LinesIterator.next.Goals as goal

pub returns-then-is_empty-clause-steps : goal.returns-then-is_empty-clause-steps
returns-then-is_empty-clause-steps c =
    let empty : length c.self.inside.rest.now ≡ 0 = grind (arith, nat_tests) in
    let none = sym (ap (λ (s : LinesLeft). s.left) c.self.view_is) ∙ lines-none c.self.inside.rest.now empty in
    (none, none)
