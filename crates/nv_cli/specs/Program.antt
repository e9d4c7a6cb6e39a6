-- What the program says, over the words of the process or over why there are none.
use Rattle.std.specs.Prelude.{◌≡◌, ◌++◌, ℕ, List, Option, None, Some, Result, Ok, Err, Vec, String, IsOk, IsErr, IfOk}
use Rattle.std.specs.Global.{Global}
use Rattle.nv_outside.specs.Told.{Told, Grows}
use Rattle.nv_outside.specs.Sink.{Put, faults_by}
use Rattle.nv_driver.specs.Words.{texts, command_of}
use Rattle.nv_driver.specs.declared.asked.LineFault.{LineFault}
use Rattle.nv_driver.specs.Due.{IsDue, IsUntouched, Over, Shows, Completes, Rejects}
use Rattle.nv_driver.specs.Live.{Streams}
use Rattle.nv_driver.specs.Outcome.{Outcome, Source, outcome_status, text_of, ended_with, ending_status}
use Rattle.nv_driver.specs.declared.ending.Ending.{Ending}
use Rattle.nv_driver.specs.declared.ending.Ending.TheVariants.{Finished}
use Rattle.nv_driver.specs.Tasks.{fault_outcome}

-- the words of the process, or why there are none
abbrev pub Given : Type 0
Given = Result (Vec (String Global) Global) LineFault

-- Words owe what they owe the monitor. Where there are none, usage is due, or want of memory.
abbrev pub IsDueOf : Given → (List ℕ → Told) → Outcome → Type 0
IsDueOf (Ok words) holds outcome = IsDue (texts words.items) holds outcome
IsDueOf (Err fault) holds outcome = outcome ≡ fault_outcome fault

-- the words are refused, or there are none
abbrev pub AreRefused : Given → Type 0
AreRefused (Ok words) = command_of (texts words.items) ≡ None
AreRefused (Err fault) = Unit {0}

-- What stands on the sink is a beginning of what stood there and the text. An object that no longer tells never tells again.
abbrev pub Begins : Option (List ℕ) → List ℕ → Option (List ℕ) → Type 0
Begins before text None = Unit {0}
Begins (Some before) text (Some after) = (rest : List ℕ) × (before ++ text ≡ after ++ rest)
Begins None text (Some after) = ⊥

-- The whole text was written with its status, and no write failed; or just one write failed, the text was written up to there, and the status is 6.
pub record EndsWith (text : List ℕ) (text_status : ℕ) (before : Option (List ℕ)) (faults : ℕ) (status : ℕ) (after : Option (List ℕ)) (later_faults : ℕ) : Type 0 where
  pub put : Put
  pub ends : status ≡ ended_with put text_status
  pub counted : later_faults ≡ faults_by put faults
  pub whole : IsOk put → Grows before text after
  pub begun : IsErr put → Begins before text after

-- what was done over the streams of a live run; without words they stay as they are
abbrev pub OverOf : Given → Outcome → Streams → Streams × Ending → Type 0
OverOf (Ok words) outcome before later = Over (command_of (texts words.items)) outcome before later
OverOf (Err fault) outcome before later = later ≡ (before, Finished)

-- The program came to an outcome that is due, and ended with it. Where words are refused, or there are none, no file was read.
pub record ProgramAnswers (words : Given) (source : Source) (streams : Streams) (before : Option (List ℕ)) (faults : ℕ) (status : ℕ) (after : Option (List ℕ)) (later_faults : ℕ) (later : Streams × Ending) : Type 0 where
  pub outcome : Outcome
  pub due : IsDueOf words source.holds outcome
  pub shown : Shows outcome source
  pub unread : AreRefused words → IsUntouched source
  pub ends : EndsWith (text_of outcome) (outcome_status outcome) before faults status after later_faults
  pub over : OverOf words outcome streams later

-- The program ended so, and what it said had a status, of which `completes` and `rejects` speak. The process ends with that, or with the status of a stream that failed.
pub record ProcessEnds (words : Given) (source : Source) (streams : Streams) (before : Option (List ℕ)) (faults : ℕ) (code : ℕ) (after : Option (List ℕ)) (later_faults : ℕ) (later : Streams × Ending) : Type 0 where
  pub status : ℕ
  pub code_is : code ≡ ending_status later.1 status
  pub answers : ProgramAnswers words source streams before faults status after later_faults later
  pub completes : IfOk words (λ words. Completes (texts words.items) source faults status later_faults)
  pub rejects : IfOk words (λ words. Rejects (texts words.items) source status)
