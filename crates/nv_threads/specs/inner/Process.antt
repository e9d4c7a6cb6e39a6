-- What always holds of a process.
use Rattle.std.specs.Prelude.{◌≡◌, ℕ, ◌<◌, ◌≤◌, Bool, true, ◌+◌, ◌*◌, ◌==◌, ◌&&◌, not, List, [], ◌∷◌, length}
use Rattle.std.specs.List.{list_any}
use Rattle.nv_calls.specs.declared.calls.Call.{Call}
use Rattle.nv_calls.specs.Limits.{MOST_BYTES, MOST_THREADS}
use Rattle.nv_calls.specs.Shapes.{IsShaped}
use Rattle.nv_threads.specs.Threads.{TaskState, Runs, Asks, Waits, Task, task_tids}

-- no number stands twice
abbrev pub are_apart : List ℕ → Bool
are_apart [] = true
are_apart (t ∷ ts) = not (list_any (λ u. u == t) ts) && are_apart ts

-- a call that waits is the thread's, and one that a guest makes
abbrev pub IsOwn : ℕ → TaskState → Type 0
IsOwn tid Runs = Unit {0}
IsOwn tid (Asks call) = (call.tid ≡ tid) × IsShaped call
IsOwn tid (Waits address) = Unit {0}

abbrev pub AreOwn : List Task → Type 0
AreOwn [] = Unit {0}
AreOwn (t ∷ ts) = IsOwn t.tid t.state × AreOwn ts

-- each call can hold what is handed in
abbrev pub HaveCapacity : List Call → Type 0
HaveCapacity [] = Unit {0}
HaveCapacity (c ∷ cs) = (MOST_BYTES ≤ c.payload.capacity) × HaveCapacity cs

-- The instructions run keep to the budget, and with all that may follow a renewal to a number of 64 bits; the guest has these threads, each a number of
-- its own, and there is a call for each of eight.
pub record IsSoundProcess (count budget renewals earlier : ℕ) (tasks : List Task) (guest : List ℕ) (calls : List Call) : Type 0 where
  pub within : count ≤ budget
  pub few : earlier + renewals * budget ≤ 500000000000000000
  pub same : 0 < length tasks → guest ≡ task_tids tasks
  pub apart : are_apart (task_tids tasks) ≡ true
  pub own : AreOwn tasks
  pub eight : length calls ≡ MOST_THREADS
  pub capacity : HaveCapacity calls
