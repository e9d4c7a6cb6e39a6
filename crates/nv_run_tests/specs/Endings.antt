-- How the turns of a run end.
use Rattle.std.specs.Prelude.{List}
use Rattle.nv_calls.specs.declared.kernel.SyscallKernel.{Ghosts}
use Rattle.nv_workers.specs.declared.worker.Worker.{Worker}
use Rattle.nv_workers.specs.inner.Rounds.{AreGone}
use Rattle.nv_run_tests.specs.declared.scheduler.Ending.{Ending}
use Rattle.nv_run_tests.specs.declared.scheduler.Ending.TheVariants.{AllLeft, AllWait, TooMany}

module _ {K : Type 0} {G : Ghosts K} where
  -- an ending that says so leaves none that works
  abbrev pub GoneIfLeft : Ending → List (Worker K G) → Type 0
  GoneIfLeft AllLeft ws = AreGone ws
  GoneIfLeft AllWait ws = Unit {0}
  GoneIfLeft TooMany ws = Unit {0}
