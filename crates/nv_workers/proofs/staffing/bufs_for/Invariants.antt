use Rattle.std.proofs.Common.{◌≡◌}
use Rattle.std.specs.Prelude.{vec_len}
use Rattle.nv_workers.proofs.staffing.bufs_for.Given as goal

abbrev pub invariant-loop : goal.invariant-loop
invariant-loop l = record { many : vec_len l.bufs ≡ l.counter }
