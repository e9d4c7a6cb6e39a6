-- What a call of the monitor may come to, and what is then written.
use Rattle.std.specs.Prelude.{ℕ, Option, Bool, true, false, List, [], ◌∷◌, ◌++◌, codes, length, count_by, sum_by, slice_get, unwrap_or, Ok, Err}
use Rattle.std.specs.List.{concat}
use Rattle.nv_gen.specs.Made as gen
use Rattle.nv_outside.specs.Told.{Told}
use Rattle.nv_outside.specs.Sink.{Put}
use Rattle.nv_driver.specs.Help.{help_of}
use Rattle.nv_driver.specs.Words.{Name, Plan, Service, Trail}
use Rattle.nv_calls.specs.Logs.{output_of, connections_of}
use Rattle.nv_script.specs.Scripts.{Setup}
use Rattle.nv_arriving.specs.Scripted.{start_from}
use Rattle.nv_sockets.specs.Texts.{connections_text}
use Rattle.nv_replay.specs.Follow.{Follower, is_exited}
use Rattle.nv_threads.specs.Threads.{Proc}
use Rattle.nv_trace.specs.Trace.{trace_of}
use Rattle.nv_replay.specs.Sequence.{Account}
use Rattle.nv_report.specs.Report.{report_text}
use Rattle.nv_report.specs.Json.{json_text}
use Rattle.nv_driver.specs.Account.{run_status}
use Rattle.nv_driver.specs.Causes.{cause_text}
use Rattle.nv_driver.specs.Found.{FILE_LIMIT, TRACE_LIMIT, script_limit}
use Rattle.nv_driver.specs.Replayed.{replay_text, replay_status}
use Rattle.nv_driver.specs.declared.ending.Ending.{Ending}
use Rattle.nv_driver.specs.declared.ending.Ending.TheVariants.{Finished, Unread, Refused as RefusedAt, CutOff as CutOffAt, Unsaid, Untold}
use Rattle.nv_driver.specs.declared.refusal.Refusal.{Refusal}
use Rattle.nv_driver.specs.declared.refusal.Refusal.TheVariants as refusal
use Rattle.nv_driver.specs.declared.refusal.Place.{Place}
use Rattle.nv_driver.specs.declared.refusal.Place.TheVariants.{Script, Version}
use Rattle.nv_driver.specs.declared.refusal.Place.TheVariants as place
use Rattle.nv_driver.specs.declared.refusal.Cause.{Cause}

-- The words are refused; memory is wanted before the run starts; a file can't be read; a file is refused; a run has its account; or a command over one file has made its text.
pub data Outcome : Type 0 where
  Usage : Outcome
  NoMemory : Outcome
  NotRead : List ℕ → Outcome
  -- that has this limit, by its name
  NotAccepted : ℕ → List ℕ → Cause → Outcome
  -- as JSON or not, over what the script says
  Reported : Bool → Setup → Account → Outcome
  Made : List ℕ → Outcome
  -- the run of a number has its account
  Summed : ℕ → Setup → Account → Outcome
  -- a run that is recorded has its account
  Recorded : Account → Outcome
  -- a version has followed a trace
  Replayed : Follower Proc → Outcome
  -- what a version shows at a point of a trace
  Shown : List ℕ → Outcome
  -- how a command is used, or each of them
  Helped : Option Name → Outcome
  -- a live run has its account, over what its script says and what came, with the lengths at which leaders handed over by operators' words
  Served : Setup → List ℕ → Account → Outcome

-- the report of an account, with what was written to the connections, or its JSON form and a newline
abbrev pub account_text : Bool → Setup → Account → List ℕ
account_text true setup account = json_text (output_of (start_from setup) account.log) account ++ codes "\n"
account_text false setup account =
    report_text (output_of (start_from setup) account.log) account ++ connections_text (connections_of (start_from setup) account.log)

-- what a run came to that left this on the console
abbrev pub totals_of : List ℕ → Account → gen.Totals
totals_of output account = record {
  output = length output;
  log = length account.log;
  exited = count_by (λ line. is_exited line.fate) account.lines;
  rewrites = sum_by (λ line. line.rewrites) account.lines;
}

-- the status of a process that served: that of a stream that failed takes the place of the run's
abbrev pub ending_status : Ending → ℕ → ℕ
ending_status Finished status = status
ending_status Unread status = 5
ending_status (RefusedAt line cause) status = 4
ending_status (CutOffAt line) status = 4
ending_status Unsaid status = 6
ending_status Untold status = 6

-- the line that names a refused file, and why it is refused
abbrev pub refused_text : List ℕ → Cause → List ℕ
refused_text name cause = concat (codes "varan: input " ∷ name ∷ codes ": " ∷ cause_text cause ∷ codes "\n" ∷ [])

-- what is written
abbrev pub text_of : Outcome → List ℕ
text_of Usage = codes "varan: usage\n"
text_of NoMemory = codes "varan: memory\n"
text_of (NotRead name) = concat (codes "varan: read " ∷ name ∷ codes "\n" ∷ [])
text_of (NotAccepted limit name cause) = refused_text name cause
text_of (Reported json setup account) = account_text json setup account
text_of (Made text) = text
text_of (Summed n setup account) = gen.summary n (totals_of (output_of (start_from setup) account.log) account)
text_of (Recorded account) = trace_of account.log
text_of (Replayed at) = replay_text at
text_of (Shown text) = text
text_of (Helped topic) = help_of topic
text_of (Served setup asked account) = []

abbrev pub outcome_status : Outcome → ℕ
outcome_status Usage = 2
outcome_status NoMemory = 3
outcome_status (NotRead name) = 5
outcome_status (NotAccepted limit name cause) = 4
outcome_status (Reported json setup account) = run_status account.lines
outcome_status (Made text) = 0
outcome_status (Summed n setup account) = 0
outcome_status (Recorded account) = run_status account.lines
outcome_status (Replayed at) = replay_status at.fate
outcome_status (Shown text) = 0
outcome_status (Helped topic) = 0
outcome_status (Served setup asked account) = run_status account.lines

-- a write fault takes the place of the other statuses
abbrev pub ended_with : Put → ℕ → ℕ
ended_with (Ok _) status = status
ended_with (Err _) status = 6

abbrev pub name_at : Place → Plan → List ℕ
name_at Script plan = plan.script.name
name_at place.Rules plan = unwrap_or plan.rules []
name_at place.Trace plan = []
name_at (Version i) plan = unwrap_or (slice_get plan.versions i) []

-- the most bytes of a file of a run
abbrev pub limit_at : Place → Plan → ℕ
limit_at Script plan = script_limit plan.script
limit_at place plan = FILE_LIMIT

-- the name of a file of a live run; none of a script that isn't named
abbrev pub name_in : Place → Service → List ℕ
name_in Script service = unwrap_or service.script []
name_in place.Rules service = unwrap_or service.rules []
name_in place.Trace service = []
name_in (Version i) service = unwrap_or (slice_get service.versions i) []

-- the name of a file of a version that follows a trace
abbrev pub name_on : Place → Trail → List ℕ
name_on Script trail = trail.script.name
name_on place.Rules trail = unwrap_or trail.rules []
name_on place.Trace trail = trail.trace
name_on (Version i) trail = trail.version

-- the most bytes of a file of a version that follows a trace
abbrev pub limit_on : Place → Trail → ℕ
limit_on Script trail = script_limit trail.script
limit_on place.Trace trail = TRACE_LIMIT
limit_on place trail = FILE_LIMIT

abbrev pub outcome_of : Refusal → Plan → Outcome
outcome_of refusal.Memory plan = NoMemory
outcome_of (refusal.Unreadable place) plan = NotRead (name_at place plan)
outcome_of (refusal.Input place cause) plan = NotAccepted (limit_at place plan) (name_at place plan) cause

abbrev pub live_outcome_of : Refusal → Service → Outcome
live_outcome_of refusal.Memory service = NoMemory
live_outcome_of (refusal.Unreadable place) service = NotRead (name_in place service)
live_outcome_of (refusal.Input place cause) service = NotAccepted FILE_LIMIT (name_in place service) cause

-- The file source of a call: what it tells of each name, and its counts before the call and after it.
pub record Source : Type 0 where
  pub holds : List ℕ → Told
  pub faults : ℕ
  pub later_faults : ℕ
  pub taken : ℕ
  pub later_taken : ℕ

abbrev pub source_of : {X : Type 0} → (X → List ℕ → Told) → (X → ℕ) → (X → ℕ) → X → X → Source
source_of holds faults taken before after = record {
  holds = holds before;
  faults = faults before;
  later_faults = faults after;
  taken = taken before;
  later_taken = taken after;
}
