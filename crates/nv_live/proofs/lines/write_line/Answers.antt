use Rattle.std.proofs.Common.{◌≡◌, ◌++◌, ◌∙◌, ap, codes, append_assoc}
use Rattle.nv_bytes.specs.Numbers.{hex_of}
use Rattle.nv_live.specs.Lines.{line_with}
use Rattle.nv_live.proofs.Noting.{writes-is}
use Rattle.nv_live.proofs.lines.write_line.Goals as goal

pub returns-clause-text : goal.returns-clause-text
returns-clause-text g c =
    let text : c.as_slice.result.now ≡ line_with c.args.head.now c.args.bytes.now =
    c.as_slice.ensures.value ∙ c.put-2.ensures
    ∙ ap (λ t. t ++ codes "\n") (c.put_hex.ensures.text ∙ ap (λ t. t ++ hex_of c.args.bytes.now) (c.put.ensures ∙ ap (λ t. t ++ c.args.head.now) c.clear.ensures))
    ∙ append_assoc c.args.head.now (hex_of c.args.bytes.now) (codes "\n") in
    writes-is g.S.Sink.told g.S.Sink.faults c.args.writer.now c.write.new.self _ _ text c.write.ensures.text
