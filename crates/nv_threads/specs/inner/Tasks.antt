-- The tables of a process, and the threads that they say.
use Rattle.std.specs.Prelude.{ℕ, suc, Bool, true, false, ◌==◌, ◌||◌, List, [], ◌∷◌, map, Option, Some, None, if◌then◌else◌}
use Rattle.nv_threads.specs.Threads.{lesser}
use Rattle.nv_threads.specs.declared.tasks.Doing.{Doing}
use Rattle.nv_threads.specs.declared.tasks.Doing.TheVariants as doing
use Rattle.nv_threads.specs.declared.tasks.Task.{Task}
use Rattle.nv_threads.specs.declared.turns.Want.{Want}
use Rattle.nv_threads.specs.declared.turns.Want.TheVariants.{Any, Only}

abbrev pub task_number : Task → ℕ
task_number t = t.tid

abbrev pub task_numbers : List Task → List ℕ
task_numbers tasks = map task_number tasks

abbrev pub doing_at : List Task → ℕ → Option Doing
doing_at [] tid = None
doing_at (t ∷ ts) tid = if t.tid == tid then Some t.doing else doing_at ts tid

abbrev pub with_doing : List Task → ℕ → Doing → List Task
with_doing [] tid d = []
with_doing (t ∷ ts) tid d = if t.tid == tid then record t { doing = d } ∷ ts else t ∷ with_doing ts tid d

abbrev pub task_place : List Task → ℕ → ℕ
task_place [] tid = 0
task_place (t ∷ ts) tid = if t.tid == tid then 0 else suc (task_place ts tid)

abbrev pub moves_by : Want → Doing → Bool
moves_by w doing.Runs = true
moves_by Any doing.Asks = true
moves_by (Only tid) doing.Asks = false
moves_by w (doing.Waits address) = false

abbrev pub can_move_by : Want → List Task → Bool
can_move_by w [] = false
can_move_by w (t ∷ ts) = moves_by w t.doing || can_move_by w ts

abbrev pub waits_by : ℕ → Doing → Bool
waits_by address doing.Runs = false
waits_by address doing.Asks = false
waits_by address (doing.Waits a) = a == address

-- the waiting thread with the least number
abbrev pub waiter_by : ℕ → List Task → Option ℕ
waiter_by address [] = None
waiter_by address (t ∷ ts) = if waits_by address t.doing then Some (lesser t.tid (waiter_by address ts)) else waiter_by address ts

abbrev pub is_runs : Option Doing → Bool
is_runs (Some doing.Runs) = true
is_runs d = false

abbrev pub is_asks : Option Doing → Bool
is_asks (Some doing.Asks) = true
is_asks d = false

abbrev pub any_asks_by : List Task → Bool
any_asks_by [] = false
any_asks_by (t ∷ ts) = is_asks (Some t.doing) || any_asks_by ts
