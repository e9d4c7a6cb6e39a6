-- What a call of the monitor owes for its words and files, and what its answer shows.
use Rattle.std.specs.Prelude.{◌≡◌, ◌⊎◌, ℕ, IsSome, Bool, false, List, [], take, Option, None, Some, Result, Ok, Err}
use Rattle.std.specs.List.{list_any}
use Rattle.nv_outside.specs.Counts.{Rose}
use Rattle.nv_outside.specs.Told.{Told}
use Rattle.nv_outside.specs.Sink.{Put, Puts}
use Rattle.nv_driver.specs.Words.{Plan, Service, Job, Trail, Look, Command, Runs, Serves, Uses, Generates, Records, Replays, Inspects, Helps, usual, command_of, command_name}
use Rattle.nv_bpf.specs.declared.op.Op.{Op}
use Rattle.nv_machine.specs.Guest.{Machine}
use Rattle.nv_script.specs.Scripts.{Setup}
use Rattle.nv_replay.specs.Lead.{is_memory}
use Rattle.nv_replay.specs.Sequence.{Account}
use Rattle.nv_driver.specs.Account.{IsRunOf, process_begun}
use Rattle.nv_driver.specs.Found.{Found, Finds, Agrees, AreFound, FILE_LIMIT, TookMore, found_of, finds_of}
use Rattle.nv_driver.specs.Prepared.{Prepared, Unreadable, Refused, Ready, prepared}
use Rattle.nv_driver.specs.Live.{Streams, Lived, Unserved, AreLiveFound, live_prepared, live_finds_of, with_arrivals, with_hands}
use Rattle.nv_driver.specs.declared.ending.Ending.{Ending}
use Rattle.nv_driver.specs.declared.ending.Ending.TheVariants.{Finished}
use Rattle.nv_script.specs.Arrivals.{Arrival}
use Rattle.nv_driver.specs.Generated.{IsMadeRun}
use Rattle.nv_driver.specs.Made.{made_of}
use Rattle.nv_driver.specs.Outcome.{Outcome, Usage, NoMemory, NotRead, NotAccepted, Reported, Made, Summed, Recorded, Replayed, Shown, Helped, Served, Source, name_at, limit_at, name_in, name_on, limit_on, text_of, outcome_status, ended_with}
use Rattle.nv_calls.specs.Calls.{Entry}
use Rattle.nv_fs.specs.States.{FileState}
use Rattle.nv_inspect.specs.Shown.{show_text}
use Rattle.nv_replay.specs.Follow.{Follower, follow, fresh, judge_of}
use Rattle.nv_inspect.specs.Points.{at_point}
use Rattle.nv_arriving.specs.Scripted.{stage_from}
use Rattle.nv_threads.specs.Threads.{Proc, threads}
use Rattle.nv_driver.specs.Tracing.{trace_point}
use Rattle.nv_driver.specs.Traced.{TraceFinds, AreTraceFound, Traced, Lack, trace_finds_of, traced, trail_limits}
use Rattle.nv_driver.specs.Traced as lack
use Rattle.nv_driver.specs.declared.refusal.Cause.TheVariants.{Long}
use Rattle.nv_driver.specs.declared.tools.Unmade.{Unmade}
use Rattle.nv_driver.specs.declared.tools.Unmade.TheVariants as unmade

-- A run comes to its first file that can't be read or is refused, or else to an account of the sequential monitor.
abbrev pub RunComesTo : Plan → Prepared → Outcome → Type 0
RunComesTo plan (Unreadable place) outcome = outcome ≡ NotRead (name_at place plan)
RunComesTo plan (Refused place cause) outcome = outcome ≡ NotAccepted (limit_at place plan) (name_at place plan) cause
RunComesTo plan (Ready setup rules machines) outcome =
    (account : Account) × (outcome ≡ Reported plan.json setup account) × IsRunOf false plan.limits setup rules machines account

-- A command over one file makes its text, or the file can't be read or is refused.
abbrev pub made_outcome : Job → Result (List ℕ) Unmade → Outcome
made_outcome job (Ok text) = Made text
made_outcome job (Err unmade.Memory) = NoMemory
made_outcome job (Err unmade.Unreadable) = NotRead job.file
made_outcome job (Err (unmade.Refused cause)) = NotAccepted FILE_LIMIT job.file cause

-- Something is found at each place of a run that agrees with what the source tells, and over that the run comes to this.
pub record RunOwes (plan : Plan) (holds : List ℕ → Told) (outcome : Outcome) : Type 0 where
  pub finds : Finds
  pub agree : AreFound plan holds finds
  pub comes : RunComesTo plan (prepared plan.limits finds) outcome

-- the same of the one file of a command
pub record JobOwes (job : Job) (holds : List ℕ → Told) (outcome : Outcome) : Type 0 where
  pub found : Found
  pub agrees : Agrees (holds job.file) found
  pub comes : outcome ≡ made_outcome job (made_of job.tool found)

-- The made run of a number comes to an account of the sequential monitor, in which no version wanted memory, and is summed up.
pub record GenOwes (n : ℕ) (outcome : Outcome) : Type 0 where
  pub setup : Setup
  pub filter : Option (List Op)
  pub machines : List Machine
  pub made : IsMadeRun n setup filter machines
  pub account : Account
  pub is_run : IsRunOf false usual setup filter machines account
  pub never_starved : list_any (λ line. is_memory line.fate) account.lines ≡ false
  pub comes : outcome ≡ Summed n setup account

-- what a file that gives nothing has its command come to
abbrev pub lack_outcome : Trail → Lack → Outcome
lack_outcome trail (lack.Unreadable place) = NotRead (name_on place trail)
lack_outcome trail (lack.Refused place cause) = NotAccepted (limit_on place trail) (name_on place trail) cause

-- what files come to of which this is made
abbrev pub traced_outcome : Trail → (Traced → Outcome) → Result Traced Lack → Outcome
traced_outcome trail made (Ok files) = made files
traced_outcome trail made (Err lack) = lack_outcome trail lack

-- the same of the files of a version that follows a trace
pub record TrailOwes (trail : Trail) (made : Traced → Outcome) (holds : List ℕ → Told) (outcome : Outcome) : Type 0 where
  pub finds : TraceFinds
  pub agree : AreTraceFound trail holds finds
  pub comes : outcome ≡ traced_outcome trail made (traced trail finds)

-- The version follows the whole log, judged as the version with its number.
abbrev pub replayed : Trail → Traced → Outcome
replayed trail files = Replayed (follow threads (judge_of files.rules trail.index) files.log (fresh (process_begun (trail_limits trail) files.setup files.machine)))

-- the files of the kernel after so many events of the log
abbrev pub files_after : Setup → List Entry → FileState
files_after setup log = (stage_from setup log).here.state.own.files

-- the version at a point of the log, and the files after the events that it has seen
abbrev pub shown_of : Traced → Option (ℕ × ℕ) → Follower Proc → Outcome
shown_of files dump at = Shown (show_text at (files_after files.setup (take at.seen files.log)) dump)

abbrev pub shown : Look → Traced → Outcome
shown look files = shown_of files look.dump (at_point files.rules look.trail.index files.log (trace_point look.point) look.trail.budget look.trail.renews files.setup.polls files.machine)

-- A recorded run comes to its first file that can't be read or is refused, or else to an account of the sequential monitor, in which no version wanted memory.
abbrev pub RecordComesTo : Plan → Prepared → Outcome → Type 0
RecordComesTo plan (Unreadable place) outcome = outcome ≡ NotRead (name_at place plan)
RecordComesTo plan (Refused place cause) outcome = outcome ≡ NotAccepted (limit_at place plan) (name_at place plan) cause
RecordComesTo plan (Ready setup rules machines) outcome =
    (account : Account) × (outcome ≡ Recorded account) × IsRunOf false plan.limits setup rules machines account × (list_any (λ line. is_memory line.fate) account.lines ≡ false)

pub record RecordOwes (plan : Plan) (holds : List ℕ → Told) (outcome : Outcome) : Type 0 where
  pub finds : Finds
  pub agree : AreFound plan holds finds
  pub comes : RecordComesTo plan (prepared plan.limits finds) outcome

-- A live run comes to its first file that can't be read or is refused, or else to an account of the sequential monitor over what its script says and what came, which hands over at the script's planned lengths and
-- at those that were asked for by an operator's words. Only lines of clients have such words, and only over them a follower may be let go.
abbrev pub ServeComesTo : Service → Prepared → Outcome → Type 0
ServeComesTo service (Unreadable place) outcome = outcome ≡ NotRead (name_in place service)
ServeComesTo service (Refused place cause) outcome = outcome ≡ NotAccepted FILE_LIMIT (name_in place service) cause
ServeComesTo service (Ready setup rules machines) outcome =
    (arrivals : List Arrival) × (asked : List ℕ) × (account : Account) × (outcome ≡ Served (with_arrivals setup arrivals) asked account)
    × (service.clients ≡ false → asked ≡ []) × IsRunOf service.clients service.limits (with_hands (with_arrivals setup arrivals) asked) rules machines account

pub record ServeOwes (service : Service) (holds : List ℕ → Told) (outcome : Outcome) : Type 0 where
  pub finds : Finds
  pub agree : AreLiveFound service holds finds
  pub comes : ServeComesTo service (live_prepared service.limits finds) outcome

-- what each command owes: a further command is one case more here, in IsAccepted, IsRefused and IsDone, and no clause of the top call changes
abbrev pub Owes : Command → (List ℕ → Told) → Outcome → Type 0
Owes (Runs plan) holds outcome = RunOwes plan holds outcome
Owes (Uses job) holds outcome = JobOwes job holds outcome
Owes (Generates n) holds outcome = GenOwes n outcome
Owes (Records plan) holds outcome = RecordOwes plan holds outcome
Owes (Replays trail) holds outcome = TrailOwes trail (replayed trail) holds outcome
Owes (Inspects look) holds outcome = TrailOwes look.trail (shown look) holds outcome
Owes (Helps topic) holds outcome = outcome ≡ Helped topic
Owes (Serves service) holds outcome = ServeOwes service holds outcome

-- words that are refused owe the line of usage
abbrev pub OwesAny : Option Command → (List ℕ → Told) → Outcome → Type 0
OwesAny None holds outcome = outcome ≡ Usage
OwesAny (Some command) holds outcome = Owes command holds outcome

-- What the words owe. Memory may be wanted instead, from the reading of a command's words on.
abbrev pub IsDue : List (List ℕ) → (List ℕ → Told) → Outcome → Type 0
IsDue words holds outcome = OwesAny (command_of words) holds outcome ⊎ ((outcome ≡ NoMemory) × IsSome (command_name words))

-- no file was read
abbrev pub IsUntouched : Source → Type 0
IsUntouched source = (source.later_faults ≡ source.faults) × (source.later_taken ≡ source.taken)

-- What the counts of the source show: a read failed exactly where a file is named that can't be read, and more was taken than the file may have where one is too long.
abbrev pub Shows : Outcome → Source → Type 0
Shows Usage source = source.later_faults ≡ source.faults
Shows NoMemory source = source.later_faults ≡ source.faults
Shows (NotRead name) source = Rose source.faults source.later_faults
Shows (NotAccepted limit name cause) source = (source.later_faults ≡ source.faults) × (cause ≡ Long → TookMore limit source.taken source.later_taken)
Shows (Reported json setup account) source = source.later_faults ≡ source.faults
Shows (Made text) source = source.later_faults ≡ source.faults
Shows (Summed n setup account) source = IsUntouched source
Shows (Recorded account) source = source.later_faults ≡ source.faults
Shows (Replayed at) source = source.later_faults ≡ source.faults
Shows (Shown text) source = source.later_faults ≡ source.faults
Shows (Helped topic) source = IsUntouched source
Shows (Served setup asked account) source = source.later_faults ≡ source.faults

-- A text was written with its status; or a write failed, its count rose, a prefix of the text was written, and the status is 6.
pub record Says (text : List ℕ) (text_status : ℕ) (before : Option (List ℕ)) (faults : ℕ) (status : ℕ) (after : Option (List ℕ)) (later_faults : ℕ) : Type 0 where
  pub put : Put
  pub ends : status ≡ ended_with put text_status
  pub written : Puts before faults text put after later_faults

-- The call came to an outcome that is due, and said so. Refused words read no file.
pub record Answers (words : List (List ℕ)) (source : Source) (before : Option (List ℕ)) (faults : ℕ) (status : ℕ) (after : Option (List ℕ)) (later_faults : ℕ) : Type 0 where
  pub outcome : Outcome
  pub due : IsDue words source.holds outcome
  pub shown : Shows outcome source
  pub unread : command_of words ≡ None → IsUntouched source
  pub says : Says (text_of outcome) (outcome_status outcome) before faults status after later_faults

-- What a live run that came to this did over its streams, which have lines of clients or not. Where memory was wanted nobody was served.
abbrev pub ServedOver : Bool → Outcome → Streams → Streams × Ending → Type 0
ServedOver clients (Served setup asked account) before after = Lived clients setup asked account.log after.1 before after.0
ServedOver clients NoMemory before after = Unserved before after.0 × (after.1 ≡ Finished)
ServedOver clients outcome before after = after ≡ (before, Finished)

-- no other command touches the streams of a live run
abbrev pub Over : Option Command → Outcome → Streams → Streams × Ending → Type 0
Over (Some (Serves service)) outcome before later = ServedOver service.clients outcome before later
Over command outcome before later = later ≡ (before, Finished)

-- The call answers, and over the streams of a live run does what its outcome tells.
pub record AnswersOver (words : List (List ℕ)) (source : Source) (streams : Streams) (before : Option (List ℕ)) (faults : ℕ) (status : ℕ) (after : Option (List ℕ)) (later_faults : ℕ) (later : Streams × Ending) : Type 0 where
  pub answers : Answers words source before faults status after later_faults
  pub over : Over (command_of words) answers.outcome streams later

abbrev pub IsReady : Prepared → Type 0
IsReady (Unreadable place) = ⊥
IsReady (Refused place cause) = ⊥
IsReady (Ready setup rules machines) = Unit {0}

abbrev pub IsMade : Result (List ℕ) Unmade → Type 0
IsMade (Ok text) = Unit {0}
IsMade (Err reason) = ⊥

abbrev pub IsTraced : Result Traced Lack → Type 0
IsTraced (Ok files) = Unit {0}
IsTraced (Err lack) = ⊥

-- all files that the command reads are told, and accepted
abbrev pub IsAccepted : Command → (List ℕ → Told) → Type 0
IsAccepted (Runs plan) holds = IsReady (prepared plan.limits (finds_of holds plan))
IsAccepted (Uses job) holds = IsMade (made_of job.tool (found_of (holds job.file)))
IsAccepted (Generates n) holds = Unit {0}
IsAccepted (Records plan) holds = IsReady (prepared plan.limits (finds_of holds plan))
IsAccepted (Replays trail) holds = IsTraced (traced trail (trace_finds_of holds trail))
IsAccepted (Inspects look) holds = IsTraced (traced look.trail (trace_finds_of holds look.trail))
IsAccepted (Helps topic) holds = Unit {0}
IsAccepted (Serves service) holds = IsReady (live_prepared service.limits (live_finds_of holds service))

abbrev pub IsRefusedAt : Prepared → Type 0
IsRefusedAt (Unreadable place) = ⊥
IsRefusedAt (Refused place cause) = Unit {0}
IsRefusedAt (Ready setup rules machines) = ⊥

abbrev pub IsRefusedFor : Result (List ℕ) Unmade → Type 0
IsRefusedFor (Ok text) = ⊥
IsRefusedFor (Err unmade.Memory) = ⊥
IsRefusedFor (Err unmade.Unreadable) = ⊥
IsRefusedFor (Err (unmade.Refused cause)) = Unit {0}

abbrev pub IsRefusedOn : Result Traced Lack → Type 0
IsRefusedOn (Ok files) = ⊥
IsRefusedOn (Err (lack.Unreadable place)) = ⊥
IsRefusedOn (Err (lack.Refused place cause)) = Unit {0}

-- the files that the command reads are told up to one that is refused
abbrev pub IsRefused : Command → (List ℕ → Told) → Type 0
IsRefused (Runs plan) holds = IsRefusedAt (prepared plan.limits (finds_of holds plan))
IsRefused (Uses job) holds = IsRefusedFor (made_of job.tool (found_of (holds job.file)))
IsRefused (Generates n) holds = ⊥
IsRefused (Records plan) holds = IsRefusedAt (prepared plan.limits (finds_of holds plan))
IsRefused (Replays trail) holds = IsRefusedOn (traced trail (trace_finds_of holds trail))
IsRefused (Inspects look) holds = IsRefusedOn (traced look.trail (trace_finds_of holds look.trail))
IsRefused (Helps topic) holds = ⊥
IsRefused (Serves service) holds = IsRefusedAt (live_prepared service.limits (live_finds_of holds service))

-- a run that does its work ends with the status of its versions' fates, which is one of three
abbrev pub IsReport : ℕ → Type 0
IsReport status = (status ≡ 0) ⊎ ((status ≡ 1) ⊎ (status ≡ 7))

-- the statuses of a command that does its work
abbrev pub IsDone : Command → ℕ → Type 0
IsDone (Runs plan) status = IsReport status
IsDone (Uses job) status = status ≡ 0
IsDone (Generates n) status = status ≡ 0
IsDone (Records plan) status = (status ≡ 0) ⊎ (status ≡ 1)
IsDone (Replays trail) status = (status ≡ 0) ⊎ (status ≡ 1)
IsDone (Inspects look) status = status ≡ 0
IsDone (Helps topic) status = status ≡ 0
IsDone (Serves service) status = IsReport status

-- Files that are told and accepted, and no fault: the command does its work, or memory is wanted.
abbrev pub Completes : List (List ℕ) → Source → ℕ → ℕ → ℕ → Type 0
Completes words source faults status later_faults = (command : Command) → command_of words ≡ Some command → IsAccepted command source.holds
    → (Rose source.faults source.later_faults → ⊥) → (Rose faults later_faults → ⊥) → IsDone command status ⊎ (status ≡ 3)

-- A file that is told and refused, and no read fault: it is named, unless the line can't be written or memory is wanted.
abbrev pub Rejects : List (List ℕ) → Source → ℕ → Type 0
Rejects words source status = (command : Command) → command_of words ≡ Some command → IsRefused command source.holds
    → (Rose source.faults source.later_faults → ⊥) → (status ≡ 4) ⊎ ((status ≡ 6) ⊎ (status ≡ 3))
