use Rattle.std.proofs.Common.{◌++◌, sym, ap, ◌∙◌}
use Rattle.nv_script.proofs.Texts.{input-line}
use Rattle.nv_script.proofs.writing.put_input.Goals as goal

pub returns-in_ok-extend_from_slice-2-clause-text : goal.returns-in_ok-extend_from_slice-2-clause-text
returns-in_ok-extend_from_slice-2-clause-text c =
    input-line c.args.out.now.items c.args.bytes.now _ (sym c.is_line.ensures ∙ c.if-is_line.true)
    (c.in_ok-extend_from_slice-2.ensures.items ∙ ap (λ x. x ++ c.args.bytes.now) c.in_ok-extend_from_slice.ensures.items)
