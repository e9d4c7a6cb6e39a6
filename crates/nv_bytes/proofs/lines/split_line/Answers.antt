use Rattle.std.proofs.Common.{[], ◌∷◌, option_map, unwrap_or, ap, ◌∙◌}
use Rattle.nv_bytes.specs.Lines.{lines}
use Rattle.nv_bytes.proofs.Cutting.{lines-cut}
use Rattle.nv_bytes.proofs.lines.split_line.Goals as goal

pub returns-in-Some-clause-lines : goal.returns-in-Some-clause-lines
returns-in-Some-clause-lines c =
    lines-cut c.args.text.now _ _ c.requires c.cut.ensures.prefix c.cut.ensures.rest ∙ ap (λ rest. c.cut.result.0.now ∷ lines (unwrap_or (option_map (λ r. r.now) rest) [])) c.in-Some.is

pub returns-in-None-clause-lines : goal.returns-in-None-clause-lines
returns-in-None-clause-lines c =
    lines-cut c.args.text.now _ _ c.requires c.cut.ensures.prefix c.cut.ensures.rest ∙ ap (λ rest. c.cut.result.0.now ∷ lines (unwrap_or (option_map (λ r. r.now) rest) [])) c.in-None.is
