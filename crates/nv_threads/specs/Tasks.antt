-- The tables of a process, and the threads that they say.
use Rattle.std.specs.Prelude.{List, [], ◌∷◌}
use Rattle.nv_calls.specs.Calls.{Request}
use Rattle.nv_threads.specs.Threads.{TaskState, Runs, Asks, Waits, Task as Thread, no_call}
use Rattle.nv_threads.specs.declared.tasks.Doing.{Doing}
use Rattle.nv_threads.specs.declared.tasks.Doing.TheVariants as doing
use Rattle.nv_threads.specs.declared.tasks.Task.{Task}

-- the state of a thread, with the call that it may wait for
abbrev pub state_by : Doing → Request → TaskState
state_by doing.Runs call = Runs
state_by doing.Asks call = Asks call
state_by (doing.Waits address) call = Waits address

abbrev pub thread_by : Task → Request → Thread
thread_by t call = record { tid = t.tid; state = state_by t.doing call }

-- the threads with the calls beside them
abbrev pub threads_of : List Task → List Request → List Thread
threads_of [] calls = []
threads_of (t ∷ ts) [] = thread_by t no_call ∷ threads_of ts []
threads_of (t ∷ ts) (call ∷ calls) = thread_by t call ∷ threads_of ts calls
