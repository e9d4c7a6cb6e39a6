-- A version at a point of a log.
use Rattle.std.specs.Prelude.{ℕ, suc, Bool, false, ◌==◌, List, [], ◌∷◌, take, Option, if◌then◌else◌}
use Rattle.nv_bpf.specs.declared.op.Op.{Op}
use Rattle.nv_calls.specs.Calls.{Entry}
use Rattle.nv_machine.specs.Guest.{Machine}
use Rattle.nv_threads.specs.Threads.{Proc, threads, started}
use Rattle.nv_replay.specs.Follow.{Follower, follow, fresh, judge_of}
use Rattle.nv_inspect.specs.declared.points.TracePoint.{TracePoint}
use Rattle.nv_inspect.specs.declared.points.TracePoint.TheVariants.{Stamp, Call, Count}

-- the place of the first event of a number; the length where there is none
abbrev pub place_of : ℕ → List Entry → ℕ
place_of nr [] = 0
place_of nr (e ∷ es) = if e.call.nr == nr then 0 else suc (place_of nr es)

-- the events that are followed to the point
abbrev pub events_to : TracePoint → List Entry → List Entry
events_to (Stamp stamp) log = take stamp log
events_to (Call nr) log = take (place_of nr log) log
events_to (Count count) log = log

-- how many instructions the version may run
abbrev pub budget_to : TracePoint → ℕ → ℕ
budget_to (Count count) budget = count
budget_to point budget = budget

-- whether their count begins anew at each answer: a count of instructions is of all of them
abbrev pub renews_to : TracePoint → Bool → Bool
renews_to (Count count) renews = false
renews_to point renews = renews

-- The version with number i that loads this machine, over the log at the point, where its calls are judged by this filter. The kernel at the point has served the
-- events seen.
abbrev pub at_point : Option (List Op) → ℕ → List Entry → TracePoint → ℕ → Bool → Bool → Machine → Follower Proc
at_point rules i log point budget renews polls machine =
    follow threads (judge_of rules i) (events_to point log) (fresh (started machine (budget_to point budget) (renews_to point renews) polls))
