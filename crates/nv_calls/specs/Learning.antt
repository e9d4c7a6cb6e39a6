-- What a kernel may learn from outside while memory is taken: how it goes on, and nothing of what it has done.
use Rattle.std.specs.Prelude.{◌≡◌, ℕ, List, take, Some, slice_get}
use Rattle.nv_calls.specs.Calls.{Entry}
use Rattle.nv_calls.specs.Logs.{Start, IsLegal, served, output_of, connections_of}

-- at each front of the log all is as it was: its next call becomes the same event, and the console and the connections have the same bytes
pub record GoesOn (log : List Entry) (before after : Start) : Type 0 where
  pub events : (i : ℕ) (e : Entry) → slice_get log i ≡ Some e → served after (take i log) e.call ≡ served before (take i log) e.call
  pub console : (i : ℕ) → output_of after (take i log) ≡ output_of before (take i log)
  pub connections : (i : ℕ) → connections_of after (take i log) ≡ connections_of before (take i log)

-- from whatever start this log is legal
abbrev pub FromAny : List Entry → (Start → Type 0) → Type 0
FromAny log holds = (start : Start) → IsLegal start log → holds start
