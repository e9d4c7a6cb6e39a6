use Rattle.std.proofs.Common.{[], ◌∷◌, refl}
use Rattle.nv_script.specs.Doings.{Says}
use Rattle.nv_script.specs.ArrivalViews.{said_view}
use Rattle.nv_live.proofs.Doing.{did-say}
use Rattle.nv_live.proofs.InTurn.{in-turn-unasked}
use Rattle.nv_live.proofs.Noting.{writes-is}
use Rattle.nv_live.proofs.Stopping.{stays-stopped}
use Rattle.nv_live.proofs.live.LiveOutside.say.Goals as goal

pub returns : goal.returns
returns g c = record {
  said =
      in-turn-unasked g.I.Source.took g.I.Source.faults g.I.Source.moments g.O.Sink.told g.O.Sink.faults g.T.Sink.told g.T.Sink.faults
      c.args.self.now (record { incoming = c.args.self.now.incoming; out = c.write.new.self; transcript = c.args.self.now.transcript }) (Says (said_view c.args.said.now) ∷ [])
      (did-say g.I.Source.took g.I.Source.faults g.O.Sink.told g.O.Sink.faults g.T.Sink.told g.T.Sink.faults
      c.args.self.now (record { incoming = c.args.self.now.incoming; out = c.write.new.self; transcript = c.args.self.now.transcript }) (said_view c.args.said.now) refl
      (writes-is g.O.Sink.told g.O.Sink.faults c.args.self.now.out c.write.new.self _ _ c.plain_bytes.ensures c.write.ensures.text) refl) refl;
  stays = stays-stopped c.args.self.now.incoming.stopped c.args.self.now.out.put c.write.new.self.put c.write.ensures.stays;
}
