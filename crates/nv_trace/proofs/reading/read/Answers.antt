use Rattle.std.proofs.Common.{◌≡◌, ℕ, ◌<◌, List, get_or, map, drop, Some, None, inl, inr, ⊎_elim}
use Rattle.std.specs.Prelude.{◌⊎◌, Result, Ok, Err, IfOk, IfErr, MatchResult}
use Rattle.std.specs.Global.{Vec}
use Rattle.std.proofs.lemmas.Result.{err_from_is_err_and}
use Rattle.nv_calls.specs.declared.calls.Event.{Event}
use Rattle.nv_calls.specs.Calls.{entry}
use Rattle.nv_trace.specs.declared.fault.TraceFault.{TraceFault}
use Rattle.nv_trace.specs.declared.fault.TraceFault.TheVariants.{Memory}
use Rattle.nv_trace.specs.Trace.{IsRead}
use Rattle.nv_trace.specs.Held.{count_in, entries_in}
use Rattle.nv_trace.specs.Faults.{head_fault, events_fault, IsFirstFault}
use Rattle.nv_trace.proofs.Whole.{read_is, refused_is, refused_head, trace_by_events, log_by_events}
use Rattle.nv_trace.proofs.reading.read.Goals as goal

-- the events behind the head, by what they come to
log_of : (r : Result (Vec Event) TraceFault) (bytes : List ℕ) → ((i : ℕ) → get_or bytes i 0 < 256) → head_fault bytes ≡ None
    → MatchResult r (λ _. events_fault (count_in bytes) 0 (drop 12 bytes) ≡ None) (λ fault. (fault ≡ Memory) ⊎ (events_fault (count_in bytes) 0 (drop 12 bytes) ≡ Some fault))
    → IfOk r (λ events. map entry events.items ≡ entries_in (count_in bytes) 0 (drop 12 bytes))
    → IfOk r (λ events. IsRead (map entry events.items) bytes)
log_of (Ok events) bytes below head none is = read_is (map entry events.items) bytes below (trace_by_events bytes None head none) (log_by_events bytes (map entry events.items) is)
log_of (Err fault) bytes below head none is = tt

fault_of : (r : Result (Vec Event) TraceFault) (bytes : List ℕ) → head_fault bytes ≡ None
    → MatchResult r (λ _. events_fault (count_in bytes) 0 (drop 12 bytes) ≡ None) (λ fault. (fault ≡ Memory) ⊎ (events_fault (count_in bytes) 0 (drop 12 bytes) ≡ Some fault))
    → IfErr r (λ fault. (fault ≡ Memory) ⊎ IsFirstFault bytes fault)
fault_of (Ok events) bytes head none = tt
fault_of (Err fault) bytes head which = ⊎_elim
    (λ (m : fault ≡ Memory). inl m)
    (λ (h : events_fault (count_in bytes) 0 (drop 12 bytes) ≡ Some fault). inr (refused_is bytes fault (trace_by_events bytes (Some fault) head h)))
    which

pub returns-in_err-count-clause-fault : goal.returns-in_err-count-clause-fault
returns-in_err-count-clause-fault c =
    let p = err_from_is_err_and c.from_residual.result c.from_residual.ensures.1 in
    rw (p.1, p.2) (inr (refused_head c.args.bytes.now _ c.in_err-count.ensures.fault))

pub returns-clause-log : goal.returns-clause-log
returns-clause-log c =
    let bytes = c.args.bytes.now in
    let head = c.in_ok-count.ensures.fault in
    let fault = rw (c.in_ok-count.ensures.count, c.after.ensures) at c.read_events.ensures.fault in
    let events = rw (c.in_ok-count.ensures.count, c.after.ensures) at c.read_events.ensures.events in
    log_of c.read_events.result bytes (λ i. (c.type_inv.bytes i).fits) head fault events

pub returns-clause-fault : goal.returns-clause-fault
returns-clause-fault c =
    let head = c.in_ok-count.ensures.fault in
    let fault = rw (c.in_ok-count.ensures.count, c.after.ensures) at c.read_events.ensures.fault in
    fault_of c.read_events.result c.args.bytes.now head fault
