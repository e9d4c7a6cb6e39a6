use Rattle.std.proofs.Common.{◌∙◌, ◌++◌, List, ℕ, ap, codes}
use Rattle.nv_outside.proofs.Writing.{puts-is}
use Rattle.nv_sockets.proofs.writing.put_count.Goals as goal

pub returns : goal.returns
returns g c = puts-is (ap (λ (t : List ℕ). codes "connections " ++ (t ++ codes "\n")) (c.as_bytes.ensures.value ∙ c.format.ensures.text)) c.put_pieces.ensures
