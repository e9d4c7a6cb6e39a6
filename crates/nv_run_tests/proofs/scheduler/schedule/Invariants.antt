use Rattle.nv_workers.specs.Terms.{judges_of}
use Rattle.nv_workers.specs.inner.Rounds.{CanAll, AllOn}
use Rattle.nv_run_tests.proofs.scheduler.schedule.Given as goal

abbrev pub invariant-loop : goal.invariant-loop
invariant-loop l = record {
  on : AllOn (judges_of l.terms) l.room l.terms.most l.initial.workers l.workers;
  can : CanAll (judges_of l.terms) l.room l.terms.most l.workers;
}
