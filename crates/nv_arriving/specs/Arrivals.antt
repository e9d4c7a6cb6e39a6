-- Which of what comes from outside ends a wait.
use Rattle.std.specs.Prelude.{ℕ, suc, Bool, true, false, ◌||◌, ◌==◌, List, [], ◌∷◌, Option, Some, None, if◌then◌else◌}
use Rattle.nv_calls.specs.Calls.{Request}
use Rattle.nv_script.specs.Arrivals.{Arrival, Input, InputEnd, ClientsEnd, Connect, Data, End, Time}
use Rattle.nv_arriving.specs.declared.waiting.Want.{Want}
use Rattle.nv_arriving.specs.declared.waiting.Want.TheVariants as want
use Rattle.nv_arriving.specs.Standings.{Standing}
use Rattle.nv_arriving.specs.Timing.{reaches}
use Rattle.nv_arriving.specs.Polling.{ends_poll}

-- A call that waits for this, where the kernel holds that, waits no longer once that has come.
abbrev pub ends : Standing → Request → Want → Arrival → Bool
ends s c want.Input (Input bytes) = true
ends s c want.Input InputEnd = true
ends s c (want.Client port) (Connect other) = other == port
ends s c (want.Client port) ClientsEnd = true
ends s c (want.Data i) (Data client bytes) = client == i
ends s c (want.Data i) (End client) = client == i
ends s c (want.Time seconds nanos) (Time now more) = reaches now more seconds nanos
ends s c (want.Ready u) a = ends_poll s c u a
ends s c _ _ = false

-- some of them ends the wait
abbrev pub any_ends : (Arrival → Bool) → List Arrival → Bool
any_ends ends_it [] = false
any_ends ends_it (a ∷ xs) = ends_it a || any_ends ends_it xs

-- how many come up to and with the first that ends the wait; all, where none does
abbrev pub until : (Arrival → Bool) → List Arrival → ℕ
until ends_it [] = 0
until ends_it (a ∷ xs) = if ends_it a then 1 else suc (until ends_it xs)

-- how many a call takes in whose wait these end, or that doesn't wait
abbrev pub taken_for : Option (Arrival → Bool) → List Arrival → ℕ
taken_for None xs = 0
taken_for (Some ends_it) xs = until ends_it xs

-- it waits, and none of them ends the wait
abbrev pub in_vain : Option (Arrival → Bool) → List Arrival → Bool
in_vain None xs = false
in_vain (Some ends_it) xs = if any_ends ends_it xs then false else true
