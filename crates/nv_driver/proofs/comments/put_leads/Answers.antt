use Rattle.std.proofs.Common.{ℕ, List, [], ◌∷◌, codes, ap, ◌∙◌}
use Rattle.std.specs.Fmt.{decimal}
use Rattle.std.specs.List.{concat}
use Rattle.nv_outside.proofs.Writing.{puts-is}
use Rattle.nv_driver.proofs.comments.put_leads.Goals as goal

abbrev line : List ℕ → List ℕ → List ℕ
line version stamp = concat (codes "# version " ∷ version ∷ codes " leads from event " ∷ stamp ∷ codes "\n" ∷ [])

pub returns : goal.returns
returns g c = puts-is
    (ap (λ version. line version c.as_bytes-2.result.now) (c.as_bytes.ensures.value ∙ c.format.ensures.text) ∙ ap (line (decimal c.args.version)) (c.as_bytes-2.ensures.value ∙ c.format-2.ensures.text))
    c.put_pieces.ensures
