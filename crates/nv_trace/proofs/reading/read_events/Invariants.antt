use Rattle.std.proofs.Common.{◌≡◌, ◌+◌, ℕ, ◌++◌, map}
use Rattle.nv_calls.specs.Calls.{entry}
use Rattle.nv_trace.specs.Held.{entries_in}
use Rattle.nv_trace.specs.Faults.{events_fault}
use Rattle.nv_trace.proofs.reading.read_events.Given as goal

abbrev pub invariant-loop-place : goal.invariant-loop-place
invariant-loop-place l =
    (left : ℕ) → left + l.place ≡ l.count
    → (events_fault l.count 0 l.bytes ≡ events_fault left l.place l.rest) × (entries_in l.count 0 l.bytes ≡ map entry l.events.items ++ entries_in left l.place l.rest)
