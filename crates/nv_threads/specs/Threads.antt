-- A process of up to eight threads, which take turns.
use Rattle.std.specs.Prelude.{ℕ, zero, suc, ◌+◌, ◌-◌, ◌*◌, ◌%◌, ℤ, pos, Bool, true, false, ◌==◌, ◌||◌, ◌&&◌, not, nat_lt, nat_le, min, max, List, [], ◌∷◌, ◌++◌, length, map, filter, Option, Some, None, Result, Ok, Err, is_some, if◌then◌else◌}
use Rattle.std.specs.Int.{w32, cast_signed}
use Rattle.std.specs.List.{list_any}
use Rattle.nv_calls.specs.Calls.{Request, Response, status_of}
use Rattle.nv_calls.specs.Logs.{made}
use Rattle.nv_calls.specs.Numbers.{EXIT, EXIT_GROUP, is_local}
use Rattle.nv_calls.specs.Errors.{EFAULT, EAGAIN, ENOSYS, EINVAL}
use Rattle.nv_calls.specs.Profiles.{in_profile}
use Rattle.nv_calls.specs.Limits.{FIRST_THREAD, MOST_EVENTS}
use Rattle.nv_memory.specs.declared.region.Access.{Access}
use Rattle.nv_memory.specs.declared.region.Width.TheVariants.{Four}
use Rattle.nv_memory.specs.declared.region.Right.TheVariants.{Read}
use Rattle.nv_memory.specs.Image.{value_at}
use Rattle.nv_machine.specs.Guest.{Machine, guest_step}
use Rattle.nv_machine.specs.declared.outcome.FaultKind.{FaultKind}
use Rattle.nv_machine.specs.declared.outcome.FaultKind.TheVariants.{Budget, Deadlock}
use Rattle.nv_machine.specs.declared.outcome.Stepped.{Stepped}
use Rattle.nv_machine.specs.declared.outcome.Stepped.TheVariants.{On, Call, Fault as Faults}
use Rattle.nv_guest.specs.Calls.{argument, call_number, call_at}
use Rattle.nv_guest.specs.Guest.{one_thread}
use Rattle.nv_guest.specs.Heap.{moved}
use Rattle.nv_guest.specs.Threads.{break_after, Threaded, machine_at, with_machine, answered_at, cloned, without, released as released_guest}
use Rattle.nv_threads.specs.Behaviours.{Behaviour}
use Rattle.nv_threads.specs.declared.turns.Want.{Want}
use Rattle.nv_threads.specs.declared.turns.Want.TheVariants.{Any, Only}
use Rattle.nv_threads.specs.declared.turns.Came.{Came}
use Rattle.nv_threads.specs.declared.turns.Came.TheVariants.{Asked, Fault}

-- ---- the threads

pub data TaskState : Type 0 where
  Runs : TaskState
  -- a logged call waits for its answer
  Asks : (call : Request) → TaskState
  -- in a futex, at this address
  Waits : (address : ℕ) → TaskState

pub record Task : Type 0 where
  pub tid : ℕ
  pub state : TaskState

abbrev pub task_tid : Task → ℕ
task_tid t = t.tid

abbrev pub task_tids : List Task → List ℕ
task_tids tasks = map task_tid tasks

-- the state of a thread, where it lives
abbrev pub state_at : List Task → ℕ → Option TaskState
state_at [] tid = None
state_at (t ∷ ts) tid = if t.tid == tid then Some t.state else state_at ts tid

abbrev pub with_state : List Task → ℕ → TaskState → List Task
with_state [] tid s = []
with_state (t ∷ ts) tid s = if t.tid == tid then record t { state = s } ∷ ts else t ∷ with_state ts tid s

abbrev pub is_running : Option TaskState → Bool
is_running (Some Runs) = true
is_running s = false

abbrev pub is_asking : Option TaskState → Bool
is_asking (Some (Asks call)) = true
is_asking s = false

abbrev pub asks : Task → Bool
asks t = is_asking (Some t.state)

abbrev pub waits_at : ℕ → TaskState → Bool
waits_at address (Waits a) = a == address
waits_at address s = false

abbrev pub lesser : ℕ → Option ℕ → ℕ
lesser t None = t
lesser t (Some u) = min t u

-- ---- the process

-- The guest, its live threads in the order in which they came, the turn's thread with the instructions that it has left, the instructions
-- left of the budget, the budget, how often its count may still begin anew, how many instructions had been run when it last did, the status that
-- the last call to exit gave, and whether the later calls are in the table.
pub record Proc : Type 0 where
  pub guest : Threaded
  pub tasks : List Task
  pub turn : ℕ
  pub slice : ℕ
  pub left : ℕ
  pub budget : ℕ
  pub renewals : ℕ
  pub earlier : ℕ
  pub status : ℕ
  pub polls : Bool

-- how many instructions a turn has
unfoldable pub turn_length : ℕ
turn_length = 1000

-- the count begins anew at each event of the longest log, or never
abbrev pub renewals_of : Bool → ℕ
renewals_of renews = if renews then MOST_EVENTS else 0

-- as it is made
abbrev pub started : Machine → ℕ → Bool → Bool → Proc
started m budget renews polls = record {
  guest = one_thread m;
  tasks = record { tid = FIRST_THREAD; state = Runs } ∷ [];
  turn = FIRST_THREAD;
  slice = turn_length;
  left = budget;
  budget = budget;
  renewals = renewals_of renews;
  earlier = 0;
  status = 0;
  polls = polls;
}

-- how many instructions it has run
abbrev pub count_of : Proc → ℕ
count_of p = p.earlier + (p.budget - p.left)

-- the count of the budget's instructions begins anew, where it may
abbrev pub renewed : Proc → Proc
renewed p = if p.renewals == 0 then p else record p { left = p.budget; renewals = p.renewals - 1; earlier = count_of p }

-- the greatest number of a thread that lives; 0 where none does
abbrev pub greatest : List ℕ → ℕ
greatest [] = 0
greatest (t ∷ ts) = max t (greatest ts)

-- the machine of the turn's thread
abbrev pub machine : Proc → Machine
machine p = machine_at p.guest p.turn

-- the least number above one
abbrev pub least_above : ℕ → List ℕ → Option ℕ
least_above k [] = None
least_above k (t ∷ ts) = if nat_lt k t then Some (lesser t (least_above k ts)) else least_above k ts

abbrev pub least : List ℕ → Option ℕ
least [] = None
least (t ∷ ts) = Some (lesser t (least ts))

abbrev pub or_else : Option ℕ → ℕ → ℕ
or_else None n = n
or_else (Some k) n = k

-- the thread with the next higher number, or the least
unfoldable pub next_tid : ℕ → List ℕ → ℕ
next_tid turn live = or_else (least_above turn live) (or_else (least live) turn)

-- no thread has a reservation
abbrev pub all_unreserved : Proc → Proc
all_unreserved p = record p { guest = released_guest p.guest }

-- the next thread has the turn, and each reservation ends
abbrev pub turn_passed : Proc → Proc
turn_passed p = record p { guest = released_guest p.guest; turn = next_tid p.turn (task_tids p.tasks); slice = turn_length }

-- ---- the process's own calls, of the turn's thread

abbrev pub turn_replied : Proc → ℤ → Proc
turn_replied p ret = record p { guest = answered_at p.guest p.turn ret [] }

-- brk(2)
abbrev pub broken : Proc → ℕ → Proc
broken p address = record p { guest = record p.guest { memory = moved p.guest.memory address } }

abbrev pub brk : Proc → Proc
brk p = turn_replied (broken p (argument (machine p) 0)) (cast_signed w32 (break_after p.guest.memory (argument (machine p) 0)))

-- futex(2): FUTEX_PRIVATE_FLAG, 128, makes no difference
abbrev pub operation : ℕ → ℕ
operation op = if nat_le 128 (op % 256) then op - 128 else op

-- the waiting thread with the least number
abbrev pub least_waiter : ℕ → List Task → Option ℕ
least_waiter address [] = None
least_waiter address (t ∷ ts) = if waits_at address t.state then Some (lesser t.tid (least_waiter address ts)) else least_waiter address ts

abbrev pub woken_one : Proc → ℕ → Proc
woken_one p tid = record p { guest = answered_at p.guest tid (pos 0) []; tasks = with_state p.tasks tid Runs }

abbrev pub woken_by : (Proc → ℕ × Proc) → Proc → Option ℕ → ℕ × Proc
woken_by go p None = (0, p)
woken_by go p (Some tid) = (suc (go (woken_one p tid)).0, (go (woken_one p tid)).1)

-- at most so many threads that wait at the address run again, and how many these are
unfoldable pub woken : ℕ → ℕ → Proc → ℕ × Proc
woken zero address p = (0, p)
woken (suc n) address p = woken_by (woken n address) p (least_waiter address p.tasks)

abbrev pub woke : ℕ × Proc → Proc
woke r = turn_replied r.1 (pos r.0)

abbrev pub waiting : Proc → ℕ → Proc
waiting p address = turn_passed (record p { tasks = with_state p.tasks p.turn (Waits address) })

-- the word at the address may be another
abbrev pub futex_on : Proc → ℕ → ℕ → ℕ → Result ℕ Access → Proc
futex_on p op address value (Err e) = turn_replied p EFAULT
futex_on p op address value (Ok word) = if op == 1 then woke (woken (min value (length p.tasks)) address p)
    else if word == value then waiting p address else turn_replied p EAGAIN

-- FUTEX_WAIT, 0, without a timeout, and FUTEX_WAKE, 1
abbrev pub futex_by : Proc → ℕ → ℕ → ℕ → ℕ → Proc
futex_by p op address value timeout =
    if nat_lt 1 op || (op == 0 && not (timeout == 0)) then turn_replied p ENOSYS
    else if not (address % 4 == 0) then turn_replied p EINVAL
    else futex_on p op address value (value_at p.guest.memory address Four Read)

abbrev pub futex : Proc → Proc
futex p = futex_by p (operation (argument (machine p) 1)) (argument (machine p) 0) (argument (machine p) 2) (argument (machine p) 3)

-- sched_yield(2), set_tid_address(2) and gettid(2) beside these
unfoldable pub own_answer : ℕ → Proc → Proc
own_answer nr p = if nr == 214 then brk p else if nr == 422 then futex p else if nr == 124 then turn_passed (turn_replied p (pos 0)) else turn_replied p (cast_signed w32 p.turn)

-- the answer ends each reservation
abbrev pub local : ℕ → Proc → Proc
local nr p = all_unreserved (own_answer nr p)

-- ---- going on

-- the turn's thread has made a call
abbrev pub asking : Proc → Proc
asking p = record p { tasks = with_state p.tasks p.turn (Asks (in_profile p.polls (call_at (machine p) p.turn))) }

abbrev pub called : Proc → Proc
called p = if is_local (call_number (machine p)) then local (call_number (machine p)) p else asking p

-- a fault of the turn's thread, at the instruction that faulted or wasn't run
abbrev pub faulted : FaultKind → Proc → Option Came × Proc
faulted kind p = (Some (Fault kind p.turn (machine p).regs.pc), p)

abbrev pub ran : Proc → Machine → Proc
ran p m = record p { guest = with_machine p.guest p.turn m }

abbrev pub ended_by : Stepped → Proc → Option Came × Proc
ended_by On p = (None, p)
ended_by Call p = (None, called p)
ended_by (Faults kind) p = faulted kind p

abbrev pub turn_stepped : Stepped × Machine → Proc → Option Came × Proc
turn_stepped r p = ended_by r.0 (ran p r.1)

abbrev pub one_run : Proc → Proc
one_run p = record p { slice = p.slice - 1; left = p.left - 1 }

-- one instruction of the turn's thread
abbrev pub instruction : Proc → Option Came × Proc
instruction p = turn_stepped (guest_step (machine p)) (one_run p)

-- the thread whose call is wanted next
abbrev pub wanted : Want → Proc → ℕ
wanted Any p = p.turn
wanted (Only tid) p = tid

-- whether a thread in this state brings the process on
abbrev pub moves : Want → TaskState → Bool
moves w Runs = true
moves Any (Asks call) = true
moves (Only tid) (Asks call) = false
moves w (Waits address) = false

abbrev pub moves_task : Want → Task → Bool
moves_task w t = moves w t.state

abbrev pub can_move : Want → Proc → Bool
can_move w p = list_any (moves_task w) p.tasks

-- a thread that has ended has the turn no longer
abbrev pub unless_live : Proc → Proc
unless_live p = if is_some (state_at p.tasks p.turn) then p else turn_passed p

-- the turn's thread runs and has instructions left
abbrev pub is_on : Proc → Bool
is_on p = is_running (state_at p.tasks p.turn) && not (p.slice == 0)

-- The first rule that applies: the wanted call is there; no thread can bring the process on; the turn is over; the budget is; an instruction.
unfoldable pub turn_step : Want → Proc → Option Came × Proc
turn_step w p =
    if is_asking (state_at p.tasks (wanted w p)) then (Some (Asked (wanted w p)), p)
    else if not (can_move w p) then faulted Deadlock (unless_live p)
    else if not (is_on p) then (None, turn_passed p)
    else if p.left == 0 then faulted Budget p
    else instruction p

abbrev pub unless_came : (Proc → Came × Proc) → Option Came × Proc → Came × Proc
unless_came go_on (None, p) = go_on p
unless_came go_on (Some came, p) = (came, p)

-- so many turn steps at most; the number of steps that `advanced` takes is never reached
unfoldable pub steps : Want → ℕ → Proc → Came × Proc
steps w zero p = (Fault Deadlock p.turn 0, p)
steps w (suc n) p = unless_came (steps w n) (turn_step w p)

-- the turn passes fewer than so many times before an instruction is run
abbrev pub most_passes : List Task → ℕ
most_passes tasks = suc (suc (suc (2 * length tasks)))

unfoldable pub most_steps : Proc → ℕ
most_steps p = (p.left + 1) * most_passes p.tasks

-- the first call or fault, and the process at that point
unfoldable pub advanced : Want → Proc → Came × Proc
advanced w p = steps w (suc (most_steps p)) p

-- ---- answers

abbrev pub no_call : Request
no_call = record { tid = FIRST_THREAD; nr = 0; args = []; bad = false; payload = [] }

abbrev pub call_in : Option TaskState → Request
call_in (Some (Asks call)) = call
call_in s = no_call

-- exit_group(2)
abbrev pub exited : Proc → ℕ → Proc
exited p status = record p { tasks = []; status = status }

-- exit(2)
abbrev pub left_by : Proc → ℕ → ℕ → Proc
left_by p tid status = record p { guest = without p.guest tid; tasks = filter (λ t. not (t.tid == tid)) p.tasks; status = status }

abbrev pub goes_on : Proc → ℕ → Response → Proc
goes_on p tid r = record p { guest = answered_at p.guest tid r.ret r.payload; tasks = with_state p.tasks tid Runs }

-- clone(2)
abbrev pub with_child_task : Proc → ℕ → Option ℕ → Proc
with_child_task p tid None = p
with_child_task p tid (Some child) = record p { guest = cloned p.guest tid child; tasks = p.tasks ++ record { tid = child; state = Runs } ∷ [] }

-- the answer to a call with this number, whose first argument ends in this byte
abbrev pub after_call : Proc → ℕ → ℕ → ℕ → Response → Proc
after_call p tid nr status r =
    if nr == EXIT_GROUP then exited p status
    else if nr == EXIT then left_by p tid status
    else goes_on (with_child_task p tid (made nr r.ret)) tid r

-- the answer ends each reservation
abbrev pub answered_as : Proc → ℕ → ℕ → ℕ → Response → Proc
answered_as p tid nr status r = all_unreserved (after_call p tid nr status r)

abbrev pub answered_by : Proc → ℕ → Request → Response → Proc
answered_by p tid c r = answered_as p tid c.nr (status_of c) r

abbrev pub waiting_calls : List Task → ℕ
waiting_calls [] = 0
waiting_calls (t ∷ ts) = (if asks t then 1 else 0) + waiting_calls ts

abbrev pub is_sole : List ℕ → Bool
is_sole [] = true
is_sole (t ∷ []) = t == FIRST_THREAD
is_sole (t ∷ u ∷ ts) = false

unfoldable pub threads : Behaviour Proc
threads = record {
  came = λ p w. (advanced w p).0;
  after = λ p w. (advanced w p).1;
  pending = λ p t. is_asking (state_at p.tasks t);
  call = λ p t. record (call_in (state_at p.tasks t)) { tid = t };
  pc = λ p t. (machine_at p.guest t).regs.pc;
  answered = λ p t r. renewed (answered_by p t (call_in (state_at p.tasks t)) r);
  given = λ p t r. answered_by p t (call_in (state_at p.tasks t)) r;
  live = λ p. task_tids p.tasks;
  ended = λ p. if length p.tasks == 0 then Some p.status else None;
  calls_left = λ p. p.renewals * p.budget + p.left + waiting_calls p.tasks;
  is_alone = λ p. is_sole (task_tids p.tasks) && (p.turn == FIRST_THREAD);
}
