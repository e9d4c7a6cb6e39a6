use Rattle.nv_live.specs.Buffer.{held_in}
use Rattle.nv_live.proofs.Coming.{come-start}
use Rattle.nv_live.proofs.coming_lines.ComingLines.new.Goals as goal

pub returns-clause-come : goal.returns-clause-come
returns-clause-come g c =
    come-start (g.I.Source.took c.args.source) (g.I.Source.faults c.args.source) c.new.result.items (held_in c.args.buffer) c.new-2.result
    c.new.ensures.items c.requires c.new-2.ensures
