use Rattle.std.proofs.Common.{◌++◌, ◌∷◌, [], ap, ◌∙◌}
use Rattle.nv_outside.proofs.Writing.{puts-is, puts-then, puts-failed}
use Rattle.nv_report.specs.Versions.{end_text}
use Rattle.nv_report.proofs.versions.put_prefix.Goals as goal

pub returns : goal.returns
returns g c =
    puts-then (puts-is (ap (λ t. t ++ 32 ∷ []) (c.as_bytes.ensures.value ∙ c.format.ensures.text)) c.in_ok-put_pieces.ensures) c.put_fate_of.ensures

pub returns-in_err-put_pieces : goal.returns-in_err-put_pieces
returns-in_err-put_pieces g c =
    puts-failed (end_text c.args.fate) c.from_residual.ensures.0 (puts-is (ap (λ t. t ++ 32 ∷ []) (c.as_bytes.ensures.value ∙ c.format.ensures.text)) c.in_err-put_pieces.ensures)
