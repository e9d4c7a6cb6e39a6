use Rattle.nv_live.specs.Buffer.{held_in}
use Rattle.nv_live.proofs.Coming.{come-handed}
use Rattle.nv_live.proofs.coming_lines.ComingLines.hand_over.Goals as goal

pub returns-clause-handed : goal.returns-clause-handed
returns-clause-handed g c = λ first arrivals handed so_far.
    come-handed (g.I.Source.took first.source) (g.I.Source.took c.args.self.now.source) (g.I.Source.faults first.source) (g.I.Source.faults c.args.self.now.source)
    c.args.self.now.stopped c.args.self.now.line.items (held_in c.args.self.now.buffer) c.args.self.now.order c.args.self.now.taken c.args.self.now.asked handed arrivals c.requires so_far
