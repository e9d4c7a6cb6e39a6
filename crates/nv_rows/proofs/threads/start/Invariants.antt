use Rattle.std.proofs.Common.{◌≡◌}
use Rattle.nv_threads.specs.Threads.{threads}
use Rattle.nv_rows.specs.Firsts.{firsts}
use Rattle.nv_rows.proofs.threads.start.Given as goal

abbrev pub invariant-loop-i : goal.invariant-loop-i
invariant-loop-i l = threads.live l.process ≡ firsts l.i
