-- The script and the rules of a large run, as their readers take them.
use Rattle.std.specs.Prelude.{ℕ, false, List, [], ◌∷◌}
use Rattle.nv_bpf.specs.declared.op.Op.{Op}
use Rattle.nv_script.specs.Scripts.{Setup}

-- no arguments, no input, no files, a clock that stands at 0, the seed 0, no change of the leader planned, no connection, and nothing that comes
abbrev pub bare : Setup
bare = record { arguments = []; input = []; files = []; seconds = 0; nanos = 0; step = 0; seed = 0; hands = []; connections = []; arrivals = []; polls = false }

abbrev pub op : ℕ → ℕ → ℕ → ℕ → Op
op code jt jf k = record { code = code; jt = jt; jf = jf; k = k }

-- a follower's call of number 174 is allowed where the event's call has number 64; every other difference is refused
abbrev pub asks_beside_writes : List Op
asks_beside_writes = op 32 0 0 64 ∷ op 21 0 3 64 ∷ op 32 0 0 0 ∷ op 21 0 1 174 ∷ op 6 0 0 2147418112 ∷ op 6 0 0 0 ∷ []
