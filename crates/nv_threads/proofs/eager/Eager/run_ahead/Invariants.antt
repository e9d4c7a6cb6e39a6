use Rattle.std.proofs.Common.{◌≡◌, ◌<◌}
use Rattle.nv_threads.specs.Ahead.{MayGoAhead}
use Rattle.nv_threads.proofs.eager.Eager.run_ahead.Given as goal

abbrev pub invariant-loop : goal.invariant-loop
invariant-loop l = (l.self ≡ l.initial.self) × (0 < l.counter → MayGoAhead l.initial.self)
