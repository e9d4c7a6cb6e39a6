-- What the files of a version that follows a trace come to.
use Rattle.std.specs.Prelude.{ℕ, List, Option, None, Some, option_map, Result, Ok, Err}
use Rattle.nv_outside.specs.Told.{Told}
use Rattle.nv_bpf.specs.declared.op.Op.{Op}
use Rattle.nv_bpf.specs.declared.op.FilterFault.{FilterFault}
use Rattle.nv_bpf.specs.Texts.{filter_of}
use Rattle.nv_calls.specs.Calls.{Entry}
use Rattle.nv_machine.specs.Guest.{Machine}
use Rattle.nv_driver.specs.Words.{Limits, Trail, usual}
use Rattle.nv_script.specs.Scripts.{Setup, script_of}
use Rattle.nv_script.specs.declared.fault.ScriptFault.{ScriptFault}
use Rattle.nv_arriving.specs.Scripted.{start_from}
use Rattle.nv_trace.specs.declared.fault.TraceFault.{TraceFault}
use Rattle.nv_trace.specs.declared.fault.CheckFault.{CheckFault}
use Rattle.nv_trace.specs.Held.{log_in}
use Rattle.nv_trace.specs.Faults.{trace_fault}
use Rattle.nv_trace.specs.Checks.{check_fault}
use Rattle.nv_driver.specs.Found.{Found, Whole, TooLong, Unread, Agrees, AgreesIf, AgreesWithin, ScriptAgrees, TRACE_LIMIT, found_of, found_within, script_found}
use Rattle.nv_driver.specs.Prepared.{VersionOf, Faulty, Loads, version_from}
use Rattle.nv_driver.specs.declared.refusal.Place.{Place}
use Rattle.nv_driver.specs.declared.refusal.Place.TheVariants.{Script, Rules, Trace, Version}
use Rattle.nv_driver.specs.declared.refusal.Cause.{Cause}
use Rattle.nv_driver.specs.declared.refusal.Cause.TheVariants as causes

-- what is found of the files, one a place
pub record TraceFinds : Type 0 where
  pub script : Found
  pub rules : Option Found
  pub trace : Found
  pub version : Found

-- what is found agrees with what the source tells
pub record AreTraceFound (trail : Trail) (holds : List ℕ → Told) (finds : TraceFinds) : Type 0 where
  pub script : ScriptAgrees holds trail.script finds.script
  pub rules : AgreesIf holds trail.rules finds.rules
  pub trace : AgreesWithin TRACE_LIMIT (holds trail.trace) finds.trace
  pub version : Agrees (holds trail.version) finds.version

-- what is found of files that are told
abbrev pub trace_finds_of : (List ℕ → Told) → Trail → TraceFinds
trace_finds_of holds trail = record {
  script = script_found holds trail.script;
  rules = option_map (λ name. found_of (holds name)) trail.rules;
  trace = found_within TRACE_LIMIT (holds trail.trace);
  version = found_of (holds trail.version);
}

-- why a file gives nothing
pub data Lack : Type 0 where
  Unreadable : Place → Lack
  Refused : Place → Cause → Lack

-- what a file gives is used, or why it gives nothing
abbrev pub then_with : {X Y : Type 0} → (X → Result Y Lack) → Result X Lack → Result Y Lack
then_with use_it (Ok x) = use_it x
then_with use_it (Err lack) = Err lack

-- the bytes that were found
abbrev pub bytes_found : Place → Found → Result (List ℕ) Lack
bytes_found place (Whole bytes) = Ok bytes
bytes_found place TooLong = Err (Refused place causes.Long)
bytes_found place Unread = Err (Unreadable place)

abbrev pub of_script : Result Setup ScriptFault → Result Setup Lack
of_script (Ok setup) = Ok setup
of_script (Err fault) = Err (Refused Script (causes.Script fault))

abbrev pub script_at : Found → Result Setup Lack
script_at found = then_with (λ bytes. of_script (script_of bytes)) (bytes_found Script found)

abbrev pub traced_rules : Result (List Op) FilterFault → Result (Option (List Op)) Lack
traced_rules (Ok ops) = Ok (Some ops)
traced_rules (Err fault) = Err (Refused Rules (causes.Filter fault))

-- no rules where none are named
abbrev pub rules_at : Option Found → Result (Option (List Op)) Lack
rules_at None = Ok None
rules_at (Some found) = then_with (λ bytes. traced_rules (filter_of 4096 bytes)) (bytes_found Rules found)

abbrev pub unless_unsound : List Entry → Option CheckFault → Result (List Entry) Cause
unless_unsound log None = Ok log
unless_unsound log (Some fault) = Err (causes.Check fault)

abbrev pub log_unless_faulty : Result (List Entry) Cause → Option TraceFault → Result (List Entry) Cause
log_unless_faulty log None = log
log_unless_faulty log (Some fault) = Err (causes.Trace fault)

-- The log that is recorded in these bytes; or why they are no trace, or why a kernel over what the script says doesn't come to its events.
unfoldable pub trace_of_file : Setup → List ℕ → Result (List Entry) Cause
trace_of_file setup bytes = log_unless_faulty (unless_unsound (log_in bytes) (check_fault (start_from setup) (log_in bytes))) (trace_fault bytes)

abbrev pub of_trace : Result (List Entry) Cause → Result (List Entry) Lack
of_trace (Ok log) = Ok log
of_trace (Err cause) = Err (Refused Trace cause)

abbrev pub log_at : Setup → Found → Result (List Entry) Lack
log_at setup found = then_with (λ bytes. of_trace (trace_of_file setup bytes)) (bytes_found Trace found)

-- the limits of a version that follows a trace
abbrev pub trail_limits : Trail → Limits
trail_limits trail = record usual { memory = trail.memory; budget = trail.budget; renews = trail.renews }

abbrev pub traced_version : ℕ → VersionOf → Result Machine Lack
traced_version i (Faulty cause) = Err (Refused (Version i) cause)
traced_version i (Loads machine) = Ok machine

abbrev pub machine_traced : Trail → Setup → Found → Result Machine Lack
machine_traced trail setup found = then_with (λ bytes. traced_version trail.index (version_from (trail_limits trail) setup bytes)) (bytes_found (Version trail.index) found)

-- what the script says, the filter that judges the version if there is one, the log, and the version's machine
pub record Traced : Type 0 where
  pub setup : Setup
  pub rules : Option (List Op)
  pub log : List Entry
  pub machine : Machine

-- after the log the version is read
abbrev pub after_log : Trail → Found → Setup → Option (List Op) → List Entry → Result Traced Lack
after_log trail version setup rules log =
    then_with (λ machine. Ok (record { setup = setup; rules = rules; log = log; machine = machine })) (machine_traced trail setup version)

-- after the rules the trace is read
abbrev pub after_filter : Trail → Found → Found → Setup → Option (List Op) → Result Traced Lack
after_filter trail trace version setup rules = then_with (after_log trail version setup rules) (log_at setup trace)

-- after the script the rules are read
abbrev pub after_setup : Trail → TraceFinds → Setup → Result Traced Lack
after_setup trail finds setup = then_with (after_filter trail finds.trace finds.version setup) (rules_at finds.rules)

-- What the files come to: the first in reading order (script, rules, trace, version) that can't be read or is refused; each is checked before the next is read.
abbrev pub traced : Trail → TraceFinds → Result Traced Lack
traced trail finds = then_with (after_setup trail finds) (script_at finds.script)
