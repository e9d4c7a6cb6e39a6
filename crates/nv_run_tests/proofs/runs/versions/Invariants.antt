use Rattle.std.proofs.Common.{◌≡◌, length}
use Rattle.nv_threads.specs.Threads.{threads}
use Rattle.nv_replay.specs.Account.{AreFresh}
use Rattle.nv_run_tests.proofs.runs.versions.Given as goal

abbrev pub invariant-loop-index : goal.invariant-loop-index
invariant-loop-index l = record {
  fresh : AreFresh threads 0 l.versions.items;
  each : length l.versions.items ≡ l.index;
}
