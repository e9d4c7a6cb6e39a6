use Rattle.std.proofs.Common.{[], refl}
use Rattle.nv_live.proofs.Doing.{did-read}
use Rattle.nv_live.proofs.InTurn.{in-turn-unasked}
use Rattle.nv_live.proofs.live.LiveOutside.hands_over.Goals as goal

pub returns : goal.returns
returns g c = record {
  told = in-turn-unasked g.I.Source.took g.I.Source.faults g.I.Source.moments g.O.Sink.told g.O.Sink.faults g.T.Sink.told g.T.Sink.faults c.args.self.now c.args.self.now []
      (did-read g.I.Source.took g.I.Source.faults g.O.Sink.told g.O.Sink.faults g.T.Sink.told g.T.Sink.faults c.args.self.now c.args.self.now (λ first arrivals so_far. so_far) refl refl) refl;
  stays = λ over. over;
}
