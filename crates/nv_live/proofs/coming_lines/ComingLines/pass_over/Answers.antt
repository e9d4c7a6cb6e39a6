use Rattle.std.proofs.Common.{sym, subst, rules}
use Rattle.nv_live.specs.Buffer.{held_in}
use Rattle.nv_live.specs.ComingLines.{Come}
use Rattle.nv_live.proofs.Coming.{come-passed}
use Rattle.nv_live.proofs.coming_lines.ComingLines.pass_over.Goals as goal

pub returns-clause-come : goal.returns-clause-come
returns-clause-come g c = λ first arrivals handed so_far.
    subst
    (λ s. Come (g.I.Source.took first.source) (g.I.Source.took s) (g.I.Source.faults first.source) (g.I.Source.faults s)
    c.pass.new.self.stopped c.pass.new.self.line.items (held_in c.pass.new.self.buffer) c.pass.new.self.order c.pass.new.self.taken c.pass.new.self.asked handed arrivals)
    (sym c.pass.ensures.source)
    (come-passed (g.I.Source.took first.source) (g.I.Source.took c.args.self.now.source) (g.I.Source.faults first.source) (g.I.Source.faults c.args.self.now.source)
    c.args.self.now.stopped c.pass.new.self.stopped c.args.self.now.line.items (held_in c.args.self.now.buffer) c.pass.new.self.line.items (held_in c.pass.new.self.buffer)
    c.args.self.now.order c.pass.new.self.order c.args.self.now.taken c.pass.new.self.taken c.args.self.now.asked c.pass.new.self.asked handed arrivals
    c.requires.whole c.requires.passed c.requires.going c.pass.ensures.stop c.pass.ensures.line c.pass.ensures.held c.pass.ensures.order c.pass.ensures.taken (search rules) so_far)
