use Rattle.std.proofs.Common.{refl}
use Rattle.nv_live.specs.Buffer.{held_in}
use Rattle.nv_live.proofs.Asking.{asked-one}
use Rattle.nv_live.proofs.Taking.{took_more}
use Rattle.nv_live.proofs.incoming.Incoming.read_more.Goals as goal

pub returns-clause-took : goal.returns-clause-took
returns-clause-took g c = λ first arrivals so_far.
    took_more (g.I.Source.took first.source) (g.I.Source.took c.args.self.now.source) (g.I.Source.took c.refill-read.new.source)
    (g.I.Source.faults first.source) (g.I.Source.faults c.args.self.now.source) (g.I.Source.faults c.refill-read.new.source)
    c.args.self.now.stopped c.stop_by-self.result (held_in c.args.self.now.buffer) (held_in c.refill-read.new.self) c.refill-read.result arrivals
    c.refill-read.ensures.read c.refill-read.ensures.faults c.requires.going c.requires.empty c.stop_by-self.ensures so_far

pub returns-clause-asked : goal.returns-clause-asked
returns-clause-asked g c = asked-one _ _ _ _ c.refill-read.ensures.moment (refl, c.requires.empty, c.requires.going)
