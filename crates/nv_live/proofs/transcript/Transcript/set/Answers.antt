use Rattle.std.proofs.Common.{◌++◌, ◌∙◌, ap, codes}
use Rattle.nv_script.specs.ArrivalViews.{view}
use Rattle.nv_script.specs.Writing.{line_text}
use Rattle.nv_live.proofs.Noting.{one_line}
use Rattle.nv_live.proofs.transcript.Transcript.set.Goals as goal

pub returns-clause-text : goal.returns-clause-text
returns-clause-text g c =
    one_line (view c.args.arrival.now) c.put_line.new.out.items (c.in_ok-put_line.ensures.text ∙ ap (λ t. t ++ (line_text (view c.args.arrival.now) ++ codes "\n")) c.clear.ensures.items)
