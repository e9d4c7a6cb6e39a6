use Rattle.std.proofs.Common.{[], ◌∷◌, ◌++◌, sym, subst, rules}
use Rattle.nv_script.specs.ArrivalViews.{view}
use Rattle.nv_live.specs.Buffer.{held_in}
use Rattle.nv_live.specs.ComingLines.{Come}
use Rattle.nv_live.proofs.Coming.{come-taken}
use Rattle.nv_live.proofs.coming_lines.ComingLines.admit.Goals as goal

pub returns-in-Ok-clause-took : goal.returns-in-Ok-clause-took
returns-in-Ok-clause-took g c = λ took first arrivals handed so_far.
    subst
    (λ s. Come (g.I.Source.took first.source) (g.I.Source.took s) (g.I.Source.faults first.source) (g.I.Source.faults s)
    c.pass.new.self.stopped c.pass.new.self.line.items (held_in c.pass.new.self.buffer) c.pass.new.self.order c.pass.new.self.taken c.pass.new.self.asked handed (arrivals ++ view c.args.arrival.now ∷ []))
    (sym c.pass.ensures.source)
    (come-taken (g.I.Source.took first.source) (g.I.Source.took c.args.self.now.source) (g.I.Source.faults first.source) (g.I.Source.faults c.args.self.now.source)
    c.args.self.now.stopped c.pass.new.self.stopped c.args.self.now.line.items (held_in c.args.self.now.buffer) c.pass.new.self.line.items (held_in c.pass.new.self.buffer)
    c.args.self.now.order c.admit.new.self c.pass.new.self.order c.args.self.now.taken c.pass.new.self.taken c.args.self.now.asked c.pass.new.self.asked handed arrivals (view c.args.arrival.now)
    c.requires.whole c.requires.says c.requires.arrival c.requires.sound (search rules) c.requires.going
    c.pass.ensures.stop c.pass.ensures.line c.pass.ensures.held c.pass.ensures.order c.pass.ensures.taken c.pass.ensures.asked so_far)
