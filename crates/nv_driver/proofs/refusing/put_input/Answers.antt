use Rattle.std.proofs.Common.{◌++◌, ◌∙◌, ap, codes, inl, List, ℕ}
use Rattle.nv_outside.proofs.Writing.{puts-is}
use Rattle.nv_driver.proofs.refusing.put_input.Goals as goal

pub returns : goal.returns
returns g c =
    let line : List ℕ → List ℕ → List ℕ = λ name why. codes "varan: input " ++ (name ++ (codes ": " ++ (why ++ codes "\n"))) in
    inl (record {
      put = c.put_pieces-put.result;
      ends = c.ended.ensures;
      written = puts-is (ap (λ name. line name c.as_bytes-2.result.now) c.as_bytes.ensures.value ∙ ap (line c.args.name.now) (c.as_bytes-2.ensures.value ∙ c.in-Ok.ensures.ok)) c.put_pieces-put.ensures;
    })
