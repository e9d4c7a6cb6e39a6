use Rattle.std.proofs.Common.{[], ◌∷◌, refl}
use Rattle.nv_script.specs.Doings.{Says}
use Rattle.nv_script.specs.ArrivalViews.{said_view}
use Rattle.nv_live.proofs.InTurn.{among-unasked}
use Rattle.nv_live.proofs.Serving.{did-say}
use Rattle.nv_live.proofs.Stopping.{stays-stopped}
use Rattle.nv_live.proofs.clients.ClientsOutside.say.Goals as goal

pub returns : goal.returns
returns g c = record {
  said = among-unasked g.I.Source.took g.I.Source.faults g.I.Source.moments g.O.Sink.told g.O.Sink.faults g.T.Sink.told g.T.Sink.faults
      c.args.self.now (record { coming = c.args.self.now.coming; out = c.say.new.self; transcript = c.args.self.now.transcript; hand_overs = c.args.self.now.hand_overs }) (Says (said_view c.args.said.now) ∷ [])
      (did-say g.I.Source.took g.I.Source.faults g.O.Sink.told g.O.Sink.faults g.T.Sink.told g.T.Sink.faults
      c.args.self.now (record { coming = c.args.self.now.coming; out = c.say.new.self; transcript = c.args.self.now.transcript; hand_overs = c.args.self.now.hand_overs }) (said_view c.args.said.now) refl
      c.say.ensures.lines refl refl) refl;
  stays = stays-stopped c.args.self.now.coming.stopped c.args.self.now.out.writer.put c.say.new.self.writer.put c.say.ensures.stays;
}
