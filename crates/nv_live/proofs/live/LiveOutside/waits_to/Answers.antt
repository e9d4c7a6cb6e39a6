use Rattle.std.proofs.Common.{◌∙◌, ap, is_some, refl}
use Rattle.nv_live.specs.declared.incoming.Incoming.{Incoming}
use Rattle.nv_live.specs.Live.{stop_with}
use Rattle.nv_live.proofs.Doing.{did-wait}
use Rattle.nv_live.proofs.InTurn.{in-turn-still}
use Rattle.nv_live.proofs.live.LiveOutside.waits_to.Goals as goal

pub returns : goal.returns
returns g c = record {
  waits =
      in-turn-still g.I.Source.took g.I.Source.faults g.I.Source.moments g.O.Sink.told g.O.Sink.faults g.T.Sink.told g.T.Sink.faults
      c.args.self.now (record { incoming = c.waits_to.new.self; out = c.args.self.now.out; transcript = c.args.self.now.transcript })
      (did-wait g.I.Source.took g.I.Source.faults g.O.Sink.told g.O.Sink.faults g.T.Sink.told g.T.Sink.faults
      c.args.self.now (record { incoming = c.waits_to.new.self; out = c.args.self.now.out; transcript = c.args.self.now.transcript })
      c.waits_to.ensures.took c.waits_to.ensures.faults c.waits_to.ensures.stays refl refl) c.waits_to.ensures.moments;
  stays = λ over. ap (λ (incoming : Incoming g.row.I.Denot). is_some (stop_with incoming.stopped c.args.self.now.out.put)) c.waits_to.ensures.stays ∙ over;
}
