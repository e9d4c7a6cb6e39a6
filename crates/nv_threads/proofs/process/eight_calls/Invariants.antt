use Rattle.std.proofs.Common.{◌≡◌, length}
use Rattle.nv_threads.specs.inner.Process.{HaveCapacity}
use Rattle.nv_threads.proofs.process.eight_calls.Given as goal

abbrev pub invariant-loop : goal.invariant-loop
invariant-loop l = (length l.calls.items ≡ l.counter) × HaveCapacity l.calls.items
