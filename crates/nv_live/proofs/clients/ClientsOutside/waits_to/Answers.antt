use Rattle.std.proofs.Common.{◌∙◌, ap, is_some, refl}
use Rattle.nv_live.specs.declared.coming_lines.ComingLines.{ComingLines}
use Rattle.nv_live.specs.Live.{stop_with}
use Rattle.nv_live.proofs.InTurn.{among-still}
use Rattle.nv_live.proofs.Serving.{did-wait}
use Rattle.nv_live.proofs.clients.ClientsOutside.waits_to.Goals as goal

pub returns : goal.returns
returns g c = record {
  waits =
      among-still g.I.Source.took g.I.Source.faults g.I.Source.moments g.O.Sink.told g.O.Sink.faults g.T.Sink.told g.T.Sink.faults
      c.args.self.now (record { coming = c.waits_to.new.self; out = c.args.self.now.out; transcript = c.args.self.now.transcript; hand_overs = c.args.self.now.hand_overs })
      (did-wait g.I.Source.took g.I.Source.faults g.O.Sink.told g.O.Sink.faults g.T.Sink.told g.T.Sink.faults
      c.args.self.now (record { coming = c.waits_to.new.self; out = c.args.self.now.out; transcript = c.args.self.now.transcript; hand_overs = c.args.self.now.hand_overs })
      c.waits_to.ensures.took c.waits_to.ensures.faults c.waits_to.ensures.stays refl refl refl) c.waits_to.ensures.moments;
  stays = λ over. ap (λ (coming : ComingLines g.row.I.Denot). is_some (stop_with coming.stopped c.args.self.now.out.writer.put)) c.waits_to.ensures.stays ∙ over;
}
