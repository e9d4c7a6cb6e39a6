use Rattle.nv_live.proofs.Doing.{did-none}
use Rattle.nv_live.proofs.InTurn.{in-turn-none}
use Rattle.nv_live.proofs.live.Live.new.Goals as goal

pub returns-clause-did : goal.returns-clause-did
returns-clause-did g c =
    in-turn-none g.I.Source.took g.I.Source.faults g.I.Source.moments g.O.Sink.told g.O.Sink.faults g.T.Sink.told g.T.Sink.faults
    (record { incoming = c.new.result; out = c.make.result; transcript = c.make-2.result })
    (did-none g.I.Source.took g.I.Source.faults g.O.Sink.told g.O.Sink.faults g.T.Sink.told g.T.Sink.faults
    (record { incoming = c.new.result; out = c.make.result; transcript = c.make-2.result })
    c.new.ensures.going c.new.ensures.held c.make.ensures.put)
