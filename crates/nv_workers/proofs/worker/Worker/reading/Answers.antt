use Rattle.nv_workers.proofs.Making.{reads_anew}
use Rattle.nv_workers.proofs.worker.Worker.reading.Goals as goal

pub returns : goal.returns
returns g c = reads_anew c.args.version c.args.reader c.args.buf c.requires.fresh
