use Rattle.std.proofs.Common.{rules}
use Rattle.nv_live.specs.Buffer.{held_in}
use Rattle.nv_live.proofs.Coming.{come-gather, newline-first}
use Rattle.nv_live.proofs.coming_lines.ComingLines.gather.Goals as goal

pub returns-clause-come : goal.returns-clause-come
returns-clause-come g c = λ first arrivals handed so_far.
    come-gather (g.I.Source.took first.source) (g.I.Source.took c.args.self.now.source) (g.I.Source.faults first.source) (g.I.Source.faults c.args.self.now.source)
    c.args.self.now.stopped c.args.self.now.line.items (held_in c.args.self.now.buffer) c.extend_from_slice.new.self.items (held_in c.skip.new.self)
    c.args.self.now.order c.args.self.now.taken c.before_newline-count.result c.args.self.now.asked handed arrivals c.requires (search rules) (search rules) (search rules) so_far

pub returns-clause-whole : goal.returns-clause-whole
returns-clause-whole g c = λ some.
    newline-first (held_in c.args.self.now.buffer) (held_in c.skip.new.self) c.before_newline-count.result (search rules) (search rules) some
