use Rattle.nv_threads.specs.Threads.{threads}
use Rattle.nv_workers.proofs.Growing.{asked_rises}
use Rattle.nv_workers.proofs.leads.come_to_call.Goals as goal

pub returns-in-Dropped-clause-rewrites : goal.returns-in-Dropped-clause-rewrites
returns-in-Dropped-clause-rewrites c = asked_rises threads c.args.most c.args.version.now c.lead.new.self c.lead.ensures.new

pub returns-in-Asked-clause-rewrites : goal.returns-in-Asked-clause-rewrites
returns-in-Asked-clause-rewrites c = asked_rises threads c.args.most c.args.version.now c.lead.new.self c.lead.ensures.new
