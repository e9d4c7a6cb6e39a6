use Rattle.std.proofs.Common.{[], ◌∷◌, refl, ap, rules}
use Rattle.nv_script.specs.Doings.{Hands}
use Rattle.nv_live.specs.declared.clients.Clients.{Clients}
use Rattle.nv_live.proofs.InTurn.{among-unasked}
use Rattle.nv_live.proofs.Serving.{did-hand}
use Rattle.nv_live.proofs.clients.ClientsOutside.hands_over.Goals as goal

pub returns-clause-told : goal.returns-clause-told
returns-clause-told g c =
    let later : Clients _ _ _ = record { coming = c.hand_over.new.self; out = c.args.self.now.out; transcript = c.note_hand.new.self; hand_overs = c.take.new.self } in
    among-unasked g.I.Source.took g.I.Source.faults g.I.Source.moments g.O.Sink.told g.O.Sink.faults g.T.Sink.told g.T.Sink.faults c.args.self.now later (Hands c.args.length ∷ [])
    (did-hand g.I.Source.took g.I.Source.faults g.O.Sink.told g.O.Sink.faults g.T.Sink.told g.T.Sink.faults
    c.args.self.now later c.args.length
    c.hand_over.ensures.handed refl c.note_hand.ensures (search rules) c.take.ensures) (ap g.I.Source.moments c.hand_over.ensures.source)
