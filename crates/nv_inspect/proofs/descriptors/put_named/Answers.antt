use Rattle.std.proofs.Common.{◌++◌, ap, ◌∙◌, codes}
use Rattle.nv_outside.proofs.Writing.{puts-is, puts-then, puts-failed}
use Rattle.nv_inspect.specs.Shown.{opened_text}
use Rattle.nv_inspect.proofs.descriptors.put_named.Goals as goal

pub returns-in_err-put_pieces : goal.returns-in_err-put_pieces
returns-in_err-put_pieces g c =
    puts-failed (opened_text c.args.opened ++ codes "\n") c.from_residual.ensures.0
    (puts-is (ap (λ t. codes "fd " ++ (t ++ codes " ")) (c.as_bytes.ensures.value ∙ c.format.ensures.text)) c.in_err-put_pieces.ensures)

pub returns : goal.returns
returns g c =
    puts-then (puts-is (ap (λ t. codes "fd " ++ (t ++ codes " ")) (c.as_bytes.ensures.value ∙ c.format.ensures.text)) c.in_ok-put_pieces.ensures)
    (puts-then c.in_ok-put_opened.ensures c.put_all.ensures)

pub returns-in_err-put_opened : goal.returns-in_err-put_opened
returns-in_err-put_opened g c =
    puts-then (puts-is (ap (λ t. codes "fd " ++ (t ++ codes " ")) (c.as_bytes.ensures.value ∙ c.format.ensures.text)) c.in_ok-put_pieces.ensures)
    (puts-failed (codes "\n") c.from_residual-in_err-put_opened.ensures.0 c.in_err-put_opened.ensures)
