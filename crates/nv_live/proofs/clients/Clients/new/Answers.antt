use Rattle.std.proofs.Common.{ap, ◌∙◌}
use Rattle.nv_script.specs.Scripts.{are_hands}
use Rattle.nv_script.proofs.Sound.{hands-keep}
use Rattle.nv_live.proofs.InTurn.{among-none}
use Rattle.nv_live.proofs.Serving.{did-none}
use Rattle.nv_live.proofs.clients.Clients.new.Goals as goal

pub returns-clause-did : goal.returns-clause-did
returns-clause-did g c =
    among-none g.I.Source.took g.I.Source.faults g.I.Source.moments g.O.Sink.told g.O.Sink.faults g.T.Sink.told g.T.Sink.faults
    (record { coming = c.new.result; out = c.make.result; transcript = c.make-2.result; hand_overs = c.new-2.result })
    (did-none g.I.Source.took g.I.Source.faults g.O.Sink.told g.O.Sink.faults g.T.Sink.told g.T.Sink.faults
    (record { coming = c.new.result; out = c.make.result; transcript = c.make-2.result; hand_overs = c.new-2.result })
    c.new.ensures.come c.make.ensures.put (ap are_hands c.new-2.ensures ∙ c.requires.hands))

pub new-requires-2 : goal.new-requires-2
new-requires-2 g c = (hands-keep c.args.hands.now c.requires.hands).few
