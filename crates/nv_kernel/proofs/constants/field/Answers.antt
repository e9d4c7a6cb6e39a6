use Rattle.std.proofs.Common.{◌∙◌, ap, ◌++◌, length}
use Rattle.std.proofs.lemmas.List.{drop-replicate}
use Rattle.nv_kernel.proofs.constants.field.Goals as goal

pub returns : goal.returns
returns c = c.put.ensures ∙ ap (λ rest. c.args.name.now ++ rest) (drop-replicate (length c.args.name.now) 65 0)
