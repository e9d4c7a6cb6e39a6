use Rattle.nv_laws.proofs.Comings.{comes}
use Rattle.nv_laws.proofs.turns.counted_turn.Goals as goal

pub returns-clause-comes : goal.returns-clause-comes
returns-clause-comes t c = λ v w at at2. comes c.args.room.now c.turn.result c.args.worker.now c.turn.new.self v w c.turn.ensures.tells c.turn.ensures.falls at at2
