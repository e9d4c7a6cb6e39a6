use Rattle.std.proofs.Common.{◌++◌, [], ◌∙◌, ap, codes}
use Rattle.std.specs.Fmt.{decimal}
use Rattle.nv_outside.proofs.Writing.{puts-is}
use Rattle.nv_inspect.proofs.descriptors.put_file.Goals as goal

pub returns : goal.returns
returns g c =
    puts-is
    (ap (λ t. codes "file offset " ++ (t ++ (codes " size " ++ (c.as_bytes-2.result.now ++ [])))) (c.as_bytes.ensures.value ∙ c.format.ensures.text)
    ∙ ap (λ t. codes "file offset " ++ (decimal c.args.offset ++ (codes " size " ++ (t ++ [])))) (c.as_bytes-2.ensures.value ∙ c.format-2.ensures.text))
    c.put_pieces.ensures
