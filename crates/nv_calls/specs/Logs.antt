-- What a list of entries says of the threads that live, and which lists are the log of a kernel.
use Rattle.std.specs.Prelude.{◌≡◌, ℕ, ◌+◌, ◌<◌, ◌≤◌, ℤ, pos, ◌==◌, ◌&&◌, not, List, [], ◌∷◌, ◌++◌, length, take, map, filter, Option, Some, None, slice_get, Contains, if◌then◌else◌, ◌^◌}
use mathlib.Core.Option.{some}
use lib.ListN.{get_elem?}
use mir.Val.{SFits}
use mir.Syntax.{w32}
use Rattle.nv_calls.specs.Held.{AreBytes}
use Rattle.nv_calls.specs.Calls.{Request, Response, Entry, status_of}
use Rattle.nv_calls.specs.Limits.{MOST_BYTES, FIRST_THREAD, MOST_THREADS, MOST_EVENTS}
use Rattle.nv_calls.specs.Numbers.{CLONE, EXIT, EXIT_GROUP}

-- the thread that a positive answer to clone makes
abbrev pub made : ℕ → ℤ → Option ℕ
made nr (pos n) = if nr == CLONE && not (n == 0) then Some n else None
made nr ret = None

abbrev pub child_of : Entry → Option ℕ
child_of e = made e.call.nr e.reply.ret

abbrev pub with_child : List ℕ → Option ℕ → List ℕ
with_child live None = live
with_child live (Some child) = live ++ child ∷ []

-- the live threads after one more entry: exit_group ends all, exit its own thread
abbrev pub live_next : List ℕ → Entry → List ℕ
live_next live e =
    if e.call.nr == EXIT_GROUP then []
    else if e.call.nr == EXIT then filter (λ t. not (t == e.call.tid)) live
    else with_child live (child_of e)

abbrev pub live_from : List ℕ → List Entry → List ℕ
live_from live [] = live
live_from live (e ∷ es) = live_from (live_next live e) es

-- the live threads after a log, which begins with one thread
abbrev pub live_after : List Entry → List ℕ
live_after log = live_from (FIRST_THREAD ∷ []) log

abbrev pub IsNew : List ℕ → Option ℕ → Type 0
IsNew live None = Unit {0}
IsNew live (Some child) = (length live < MOST_THREADS) × (Contains live child → ⊥)

-- the numbers of an entry are in their ranges
pub record InRange (e : Entry) : Type 0 where
  pub stamp : e.stamp < 2 ^ 32
  pub tid : e.call.tid < 2 ^ 32
  pub nr : e.call.nr < 2 ^ 32
  pub six : length e.call.args ≡ 6
  pub args : (i x : ℕ) → get_elem? e.call.args i ≡ some x → x < 2 ^ 32
  pub ret : SFits w32 e.reply.ret
  pub call_bytes : AreBytes e.call.payload
  pub reply_bytes : AreBytes e.reply.payload
  pub short : length e.call.payload + length e.reply.payload ≤ MOST_BYTES

-- an entry that may stand after n others, after which these threads live
pub record MayFollow (n : ℕ) (live : List ℕ) (e : Entry) : Type 0 where
  pub stamp : e.stamp ≡ n
  pub few : n < MOST_EVENTS
  pub lives : Contains live e.call.tid
  pub new : IsNew live (child_of e)
  pub range : InRange e

-- each entry may stand where it stands
abbrev pub IsLawful : List Entry → Type 0
IsLawful log = (i : ℕ) (e : Entry) → slice_get log i ≡ Some e → MayFollow i (live_after (take i log)) e

-- a connection of the script's: its port, and what was written to it
pub record Written : Type 0 where
  pub port : ℕ
  pub bytes : List ℕ

-- how a kernel goes on from its start: what it answers, what stands on its console, and what its connections were written, after calls
pub record Start : Type 0 where
  pub replies : List Request → Request → Response
  pub console : List Request → List ℕ
  pub connections : List Request → List Written

abbrev pub call_of : Entry → Request
call_of e = e.call

abbrev pub calls_of : List Entry → List Request
calls_of log = map call_of log

-- the entry that a call becomes after a log
abbrev pub served : Start → List Entry → Request → Entry
served start log c = record { stamp = length log; call = c; reply = start.replies (calls_of log) c }

-- each entry is what its call becomes after the entries before it
abbrev pub IsLegal : Start → List Entry → Type 0
IsLegal start log = (i : ℕ) (e : Entry) → slice_get log i ≡ Some e → e ≡ served start (take i log) e.call

abbrev pub output_of : Start → List Entry → List ℕ
output_of start log = start.console (calls_of log)

abbrev pub connections_of : Start → List Entry → List Written
connections_of start log = start.connections (calls_of log)

-- the exit status that the last call asks for
abbrev pub last_status : List Entry → ℕ
last_status [] = 0
last_status (e ∷ []) = status_of e.call
last_status (e ∷ f ∷ es) = last_status (f ∷ es)

-- the exit status, where no thread lives
abbrev pub ended_after : List Entry → Option ℕ
ended_after log = if length (live_after log) == 0 then Some (last_status log) else None
