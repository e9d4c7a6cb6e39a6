use Rattle.nv_workers.proofs.Making.{leads_anew}
use Rattle.nv_workers.proofs.worker.Worker.leading.Goals as goal

pub returns : goal.returns
returns g c = leads_anew c.args.version c.begin_lead.new.self c.args.lead c.args.buf c.requires.fresh c.begin_lead.ensures
