-- Turn steps come to an end: each is nearer to it than the one before.
use Rattle.std.specs.Prelude.{◌≡◌, ℕ, suc, ◌+◌, ◌-◌, ◌*◌, ◌<◌, Bool, ◌||◌, nat_lt, List, [], ◌∷◌, length, Option, Some, None, if◌then◌else◌}
use Rattle.nv_guest.specs.Threads.{MachineRan, run, with_machine}
use Rattle.nv_threads.specs.Threads.{Proc, machine, ended_by, Task, task_tids, state_at, is_asking, wanted, moves, is_on, most_passes, advanced}
use Rattle.nv_threads.specs.declared.turns.Want.{Want}
use Rattle.nv_threads.specs.declared.turns.Came.{Came}

-- how many numbers are above one
abbrev pub above : ℕ → List ℕ → ℕ
above k [] = 0
above k (t ∷ ts) = (if nat_lt k t then 1 else 0) + above k ts

-- the first thread that can bring the process on
abbrev pub aim : Want → List Task → ℕ
aim w [] = 0
aim w (t ∷ ts) = if moves w t.state then t.tid else aim w ts

-- the turn stays where it is
abbrev pub turn_stays : Want → Proc → Bool
turn_stays w p = is_asking (state_at p.tasks (wanted w p)) || is_on p

-- how often the turn passes at most before it stays
abbrev pub passes : Want → Proc → ℕ
passes w p = if turn_stays w p then 0 else suc (above p.turn (task_tids p.tasks) + (if nat_lt p.turn (aim w p.tasks) then 0 else suc (length p.tasks)))

unfoldable pub height : Want → Proc → ℕ
height w p = p.left * most_passes p.tasks + passes w p

-- ---- the instructions of a turn at once

abbrev pub moved_on : MachineRan → Proc → Proc
moved_on r p = record p { guest = with_machine p.guest p.turn r.2; slice = p.slice - r.0; left = p.left - r.0 }

abbrev pub burst : ℕ → Proc → Option Came × Proc
burst n p = ended_by (run n (machine p)).1 (moved_on (run n (machine p)) p)

-- what some turn steps come to: nothing yet, or the end
abbrev pub Goes : Want → Proc → Option Came → Proc → Type 0
Goes w p None q = (advanced w q ≡ advanced w p) × (height w q < height w p) × (task_tids q.tasks ≡ task_tids p.tasks)
Goes w p (Some came) q = advanced w p ≡ (came, q)
