use Rattle.std.proofs.Common.{refl}
use Rattle.nv_live.specs.Buffer.{held_in}
use Rattle.nv_live.proofs.Taking.{took_piece}
use Rattle.nv_live.proofs.incoming.Incoming.pass.Goals as goal

pub returns : goal.returns
returns g c = record {
  took = λ bytes is_first first arrivals so_far.
      took_piece (g.I.Source.took first.source) (g.I.Source.took c.args.self.now.source) (g.I.Source.faults first.source) (g.I.Source.faults c.args.self.now.source)
      c.pass-count.result c.args.self.now.stopped (held_in c.args.self.now.buffer) (held_in c.pass-count.new.self) bytes arrivals
      c.pass-count.ensures.pieces c.pass-count.ensures.rest is_first so_far;
  source = refl;
}
