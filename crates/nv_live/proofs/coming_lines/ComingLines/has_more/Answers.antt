use Rattle.std.proofs.Common.{refl, rules}
use Rattle.nv_live.specs.Buffer.{held_in}
use Rattle.nv_live.proofs.Asking.{asked-one}
use Rattle.nv_live.proofs.Coming.{come-read}
use Rattle.nv_live.proofs.coming_lines.ComingLines.has_more.Goals as goal

pub returns-then-is_empty-clause-come : goal.returns-then-is_empty-clause-come
returns-then-is_empty-clause-come g c = λ first arrivals handed so_far.
    come-read (g.I.Source.took first.source) (g.I.Source.took c.args.self.now.source) (g.I.Source.took c.refill-read.new.source)
    (g.I.Source.faults first.source) (g.I.Source.faults c.args.self.now.source) (g.I.Source.faults c.refill-read.new.source)
    c.args.self.now.stopped c.stop_by_end-self.result c.args.self.now.line.items (held_in c.args.self.now.buffer) (held_in c.refill-read.new.self)
    c.args.self.now.order c.args.self.now.taken c.len.result c.args.self.now.asked handed c.refill-read.result arrivals
    c.refill-read.ensures.read c.refill-read.ensures.faults (search rules) (search rules) (search rules) c.stop_by_end-self.ensures so_far

pub returns-then-is_empty-clause-asked : goal.returns-then-is_empty-clause-asked
returns-then-is_empty-clause-asked g c = asked-one _ _ _ _ c.refill-read.ensures.moment (refl, search rules, search rules)
