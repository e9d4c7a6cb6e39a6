use Rattle.std.proofs.Common.{◌∙◌, ◌++◌, codes}
use Rattle.nv_outside.proofs.Writing.{puts-is}
use Rattle.nv_sockets.proofs.writing.put_written.Goals as goal

pub returns : goal.returns
returns g c =
    let index = c.as_bytes.ensures.value ∙ c.format.ensures.text in
    let port = c.as_bytes-2.ensures.value ∙ c.format-2.ensures.text in
    let count = c.as_bytes-3.ensures.value ∙ c.format-3.ensures.text in
    puts-is (λ j. codes "connection " ++ (index j ++ (codes " " ++ (port j ++ (codes " " ++ (count j ++ (codes "\n" ++ (c.args.output.now ++ codes "\n")))))))) c.put_pieces.ensures
