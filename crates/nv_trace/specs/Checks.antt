-- Whether a kernel comes to a list of events from its start.
use Rattle.std.specs.Prelude.{◌≡◌, ℕ, Bool, ◌==◌, ◌&&◌, not, List, [], ◌∷◌, ◌++◌, length, take, drop, map, Option, Some, None, slice_get, Contains, if◌then◌else◌}
use Rattle.std.specs.List.{list_any}
use Rattle.std.specs.Option.{option_or}
use Rattle.std.specs.Ordering.{int_eq}
use Rattle.std.specs.Str.{bytes_eq}
use Rattle.nv_calls.specs.Calls.{Response, Entry}
use Rattle.nv_calls.specs.Logs.{Start, served, calls_of, live_after, IsLegal}
use Rattle.nv_calls.specs.Shapes.{is_shaped, IsShaped}
use Rattle.nv_trace.specs.declared.fault.CheckFault.{CheckFault}
use Rattle.nv_trace.specs.declared.fault.CheckFault.TheVariants.{Ended, Shape, Thread, Reply, Memory}

-- each event's stamp is its place
abbrev pub AreStamped : List Entry → Type 0
AreStamped events = (i : ℕ) (e : Entry) → slice_get events i ≡ Some e → e.stamp ≡ i

-- The events are what a kernel from this start answers, each is a call that a guest can make, and its thread lives after the events before it.
pub record AreSoundEvents (start : Start) (events : List Entry) : Type 0 where
  pub legal : IsLegal start events
  pub shaped : (i : ℕ) (e : Entry) → slice_get events i ≡ Some e → IsShaped e.call
  pub live : (i : ℕ) (e : Entry) → slice_get events i ≡ Some e → Contains (live_after (take i events)) e.call.tid

abbrev pub is_live : List ℕ → ℕ → Bool
is_live live tid = list_any (λ t. t == tid) live

-- the same result and the same bytes
abbrev pub is_reply : Response → Response → Bool
is_reply r s = int_eq r.ret s.ret && bytes_eq r.payload s.payload

-- why an event can't come after a log; the first reason in this order
unfoldable pub entry_fault : Start → List Entry → Entry → Option CheckFault
entry_fault start log e = if length (live_after log) == 0 then Some (Ended (length log))
    else (if not (is_shaped e.call) then Some (Shape (length log))
    else (if not (is_live (live_after log) e.call.tid) then Some (Thread (length log))
    else (if not (is_reply (start.replies (calls_of log) e.call) e.reply) then Some (Reply (length log))
    else None)))

-- the fault of the first event that has one, where all of them come after a log
abbrev pub faults_after : Start → List Entry → List Entry → Option CheckFault
faults_after start log [] = None
faults_after start log (e ∷ es) = option_or (entry_fault start log e) (faults_after start (log ++ e ∷ []) es)

unfoldable pub check_fault : Start → List Entry → Option CheckFault
check_fault start events = faults_after start [] events

-- the event in a place as the kernel answers it after those before it
abbrev pub served_at : Start → List Entry → ℕ → List Entry
served_at start events i = map (λ e. served start (take i events) e.call) (take 1 (drop i events))

-- What was served up to a fault: the events before its place, and the one there where the kernel answers it otherwise.
abbrev pub served_before : Start → List Entry → CheckFault → List Entry
served_before start events (Ended i) = take i events
served_before start events (Shape i) = take i events
served_before start events (Thread i) = take i events
served_before start events (Reply i) = take i events ++ served_at start events i
served_before start events Memory = []

-- this is the first fault of the events, which aren't sound, and the kernel has served this log
pub record StopsAtFault (start : Start) (events : List Entry) (fault : CheckFault) (log : List Entry) : Type 0 where
  pub first : check_fault start events ≡ Some fault
  pub unsound : AreSoundEvents start events → ⊥
  pub left : log ≡ served_before start events fault

-- for want of memory the kernel has served the first events alone, each with its reply
pub record StopsShort (start : Start) (events : List Entry) (log : List Entry) : Type 0 where
  pub place : ℕ
  pub left : log ≡ take place events
  pub faultless : check_fault start log ≡ None

abbrev pub StopsFor : Start → List Entry → CheckFault → List Entry → Type 0
StopsFor start events Memory log = StopsShort start events log
StopsFor start events fault log = StopsAtFault start events fault log

-- the same of one event after a log
abbrev pub left_at : Start → List Entry → Entry → CheckFault → List Entry
left_at start log e (Reply i) = log ++ served start log e.call ∷ []
left_at start log e fault = log
