use Rattle.nv_script.proofs.SoundLines.{read-sound}
use Rattle.nv_script.proofs.line.read_arrival.Goals as goal

pub returns-clause-sound : goal.returns-clause-sound
returns-clause-sound c = read-sound c.arrival.result c.args.line.now c.arrival.ensures
