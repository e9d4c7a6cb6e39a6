use Rattle.nv_guest.proofs.Running.{run_one}
use Rattle.nv_guest.specs.Threads.{machine_at}
use Rattle.nv_guest.proofs.guest.Guest.step.Goals as goal

pub returns-clause-step : goal.returns-clause-step
returns-clause-step c = run_one (machine_at c.args.self.now c.args.tid) _ _ _ c.run-stepped.ensures.ran
