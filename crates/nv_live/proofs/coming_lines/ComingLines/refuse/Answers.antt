use Rattle.nv_live.specs.Buffer.{held_in}
use Rattle.nv_live.proofs.Coming.{come-refused}
use Rattle.nv_live.proofs.coming_lines.ComingLines.refuse.Goals as goal

pub returns-clause-come : goal.returns-clause-come
returns-clause-come g c = λ first arrivals handed so_far.
    come-refused (g.I.Source.took first.source) (g.I.Source.took c.args.self.now.source) (g.I.Source.faults first.source) (g.I.Source.faults c.args.self.now.source)
    c.args.self.now.stopped c.args.self.now.line.items (held_in c.args.self.now.buffer) c.args.self.now.order c.args.self.now.taken c.line_number.result c.args.self.now.asked handed c.args.cause arrivals
    c.requires.going c.line_number.ensures c.requires.cause so_far
