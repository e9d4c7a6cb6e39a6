-- A live run: what its files come to, and what it does over standard input, standard output and its transcript.
use Rattle.std.specs.Prelude.{◌≡◌, ◌⊎◌, ℕ, ◌+◌, ◌-◌, Bool, true, false, not, ◌==◌, List, [], ◌∷◌, ◌++◌, Option, None, Some, option_map, IsSome, Result, Ok, Err, if◌then◌else◌, codes, length, drop, map, get_or}
use Rattle.std.specs.List.{All, prefix_len}
use Rattle.nv_script.specs.Arrivals.{Arrival, BringsBytes}
use Rattle.nv_script.specs.Doings.{Doing, takings, sayings, handings}
use Rattle.nv_arriving.specs.Arriving.{first_stage, Satisfied}
use Rattle.nv_arriving.specs.Doings.{doings}
use Rattle.nv_arriving.specs.Telling.{taken_before, are_at_most}
use Rattle.nv_calls.specs.Calls.{Entry}
use Rattle.nv_calls.specs.Logs.{calls_of}
use Rattle.nv_driver.specs.Words.{Limits, Service}
use Rattle.nv_live.specs.Lines.{held_text}
use Rattle.nv_live.specs.Live.{stop_with}
use Rattle.nv_live.specs.Run.{CameBy, said_text}
use Rattle.nv_live.specs.Source.{Moment, Asked}
use Rattle.nv_live.specs.Transcript.{notes_on}
use Rattle.nv_live.specs.declared.incoming.Stopped.{Stopped}
use Rattle.nv_live.specs.declared.incoming.Stopped.TheVariants as stop
use Rattle.nv_outside.specs.Told.{Told}
use Rattle.nv_outside.specs.Sink.{Put, Puts}
use Rattle.nv_script.specs.Scripts.{Setup, script_of}
use Rattle.nv_script.specs.declared.fault.ScriptFault.{ScriptFault}
use Rattle.nv_driver.specs.Found.{Found, Finds, Agrees, AgreesIf, AllAgree, found_of}
use Rattle.nv_driver.specs.Found as file
use Rattle.nv_driver.specs.Prepared.{Prepared, Refused, read_at, after_rules, versions_from}
use Rattle.nv_driver.specs.declared.ending.Ending.{Ending}
use Rattle.nv_driver.specs.declared.ending.Ending.TheVariants.{Finished, Unread, Refused as RefusedAt, CutOff as CutOffAt, Unsaid, Untold}
use Rattle.nv_driver.specs.declared.refusal.Place.TheVariants.{Script}
use Rattle.nv_driver.specs.declared.refusal.Cause.{Cause}
use Rattle.nv_driver.specs.declared.refusal.Cause.TheVariants as cause

-- ---- the script

-- the text of a script that says nothing
abbrev pub bare_text : List ℕ
bare_text = codes "varan-script 5\n"

-- past its first newline
abbrev pub after_first_line : List ℕ → List ℕ
after_first_line text = drop (prefix_len (λ b. not (b == 10)) text + 1) text

-- lines of which the last has its newline as well
abbrev pub whole_lines : List ℕ → List ℕ
whole_lines text = if get_or text (length text - 1) 10 == 10 then text else text ++ 10 ∷ []

-- how a transcript over this script begins: with the script's lines, as one of the fifth form
unfoldable pub transcript_head : List ℕ → List ℕ
transcript_head script = bare_text ++ whole_lines (after_first_line script)

abbrev pub unless_comes : Setup → List Arrival → Result Setup Cause
unless_comes setup [] = Ok setup
unless_comes setup (arrival ∷ arrivals) = Err cause.Comes

abbrev pub without_arrivals : Result Setup ScriptFault → Result Setup Cause
without_arrivals (Err fault) = Err (cause.Script fault)
without_arrivals (Ok setup) = unless_comes setup setup.arrivals

abbrev pub as_begun : Result Setup ScriptFault → Result Setup ScriptFault → Result Setup Cause
as_begun (Err fault) begun = Err (cause.Script fault)
as_begun (Ok setup) begun = without_arrivals begun

-- What a live run begins with, as its transcript's head says it. The script has to be one as it stands, and may not say what comes: that is asked of standard input.
unfoldable pub live_script : List ℕ → Result Setup Cause
live_script script = as_begun (script_of script) (script_of (transcript_head script))

abbrev pub after_live_script : (Setup → Prepared) → Result Setup Cause → Prepared
after_live_script rest (Ok setup) = rest setup
after_live_script rest (Err why) = Refused Script why

-- what the files of a live run come to, by what is found of each
abbrev pub live_prepared : Limits → Finds → Prepared
live_prepared limits finds =
    read_at Script finds.script (λ bytes. after_live_script (λ setup. after_rules finds.rules (versions_from limits setup 0 finds.versions)) (live_script bytes))

-- a script that isn't named says nothing
abbrev pub AgreesOrBare : (List ℕ → Told) → Option (List ℕ) → Found → Type 0
AgreesOrBare holds None found = found ≡ file.Whole bare_text
AgreesOrBare holds (Some name) found = Agrees (holds name) found

-- what is found agrees with what the source tells
pub record AreLiveFound (service : Service) (holds : List ℕ → Told) (finds : Finds) : Type 0 where
  pub script : AgreesOrBare holds service.script finds.script
  pub rules : AgreesIf holds service.rules finds.rules
  pub versions : AllAgree holds service.versions finds.versions

-- what is found of a script that is told, or isn't named
abbrev pub found_or_bare : (List ℕ → Told) → Option (List ℕ) → Found
found_or_bare holds None = file.Whole bare_text
found_or_bare holds (Some name) = found_of (holds name)

abbrev pub live_finds_of : (List ℕ → Told) → Service → Finds
live_finds_of holds service = record { script = found_or_bare holds service.script; rules = option_map (λ name. found_of (holds name)) service.rules; versions = map (λ name. found_of (holds name)) service.versions }

-- ---- the run

-- the same with what came
abbrev pub with_arrivals : Setup → List Arrival → Setup
with_arrivals setup arrivals = record setup { arrivals = arrivals }

-- the same with the lengths at which leaders handed over by an operator's word, behind those that are planned
abbrev pub with_hands : Setup → List ℕ → Setup
with_hands setup lengths = record setup { hands = setup.hands ++ lengths }

-- What standard input, standard output and the transcript tell: what each read gave and how things stood when it was made, what was written, and how often each of them has failed.
pub record Streams : Type 0 where
  pub read : Option (List (List ℕ))
  pub unread : ℕ
  pub moments : Option (List Moment)
  pub said : Option (List ℕ)
  pub unsaid : ℕ
  pub noted : Option (List ℕ)
  pub unnoted : ℕ

-- Nobody was served over these streams: nothing was read, nothing was said, and the transcript has nothing but, at most, a text that says what a run begins with and in which nothing comes.
pub record Unserved (before after : Streams) : Type 0 where
  pub read : after.read ≡ before.read
  pub unread : after.unread ≡ before.unread
  pub moments : after.moments ≡ before.moments
  pub said : after.said ≡ before.said
  pub unsaid : after.unsaid ≡ before.unsaid
  pub head : List ℕ
  pub begins : (head ≡ []) ⊎ ((setup : Setup) × (script_of head ≡ Ok (with_arrivals setup [])))
  pub told : Put
  pub noted : Puts before.noted before.unnoted head told after.noted after.unnoted

-- a write to standard output that failed, or else one of the transcript
abbrev pub ended_by_writes : Put → Put → Ending
ended_by_writes (Err _) told = Unsaid
ended_by_writes (Ok _) (Err _) = Untold
ended_by_writes (Ok _) (Ok _) = Finished

-- How a live run ended: by a read that failed, or a line that was refused or cut off; or else by a write that failed. Once a write to standard output has failed nothing more is read.
abbrev pub ending_of : Option Stopped → Put → Put → Ending
ending_of (Some stop.Unreadable) said told = Unread
ending_of (Some (stop.Refused line cause)) said told = RefusedAt line cause
ending_of (Some (stop.CutOff line)) said told = CutOffAt line
ending_of (Some stop.Unwritten) said told = ended_by_writes said told
ending_of (Some stop.Ended) said told = ended_by_writes said told
ending_of None said told = ended_by_writes said told

-- How things stood when standard input was read at this moment, in the midst of what was done: all that was read before was taken, but for a line that had begun; just what was said by then stood on standard output, all of it;
-- and the lines of just what was taken and handed over by then stood in the transcript, behind its head, up to a write that failed.
pub record StoodAt (clients : Bool) (before : Streams) (head : List ℕ) (done : List Doing) (moment : Moment) : Type 0 where
  pub earlier : List Doing
  pub later : List Doing
  pub parted : done ≡ earlier ++ later
  pub line : List ℕ
  pub came : CameBy clients before.read moment.read before.unread moment.unread None line [] (takings earlier) (handings earlier)
  pub said : Puts before.said before.unsaid (said_text clients (sayings earlier)) (Ok tt) moment.said moment.unsaid
  pub told : Put
  pub noted : Puts before.noted before.unnoted (head ++ notes_on earlier) told moment.noted moment.unnoted

-- A live run over these streams, by its log: what was taken and what was said are each in the log's order, and nothing was said before what the log's calls take in up to there was taken.
-- Leaders handed over by operators' words at just the lengths that were asked for.
-- No call waited in vain, or a stream had stopped: a read that failed or gave nothing, a line that was refused or cut off, or a failed write of what was said. So the guests were told of no end without one.
-- The bytes are those of the streams: what was read, as plain input or as lines of clients, and so is what no call took; the bytes or the lines of what was said; and the transcript. That begins with a text that
-- says what the run began with, is up to the last line of an arrival or of a hand-over a script that says the whole run (an arrival's numbers are bytes wherever bytes were read), and has what no call took behind it, as comments.
pub record Lived (clients : Bool) (setup : Setup) (lengths : List ℕ) (log : List Entry) (ending : Ending) (before after : Streams) : Type 0 where
  pub done : List Doing
  pub took_all : takings done ≡ setup.arrivals
  pub said_all : sayings done ≡ sayings (doings setup setup.arrivals log)
  pub handed_over : handings done ≡ lengths
  pub no_sooner : are_at_most (taken_before 0 (doings setup setup.arrivals log)) (taken_before 0 done) ≡ true
  pub stopped : Option Stopped
  pub line : List ℕ
  pub held : List ℕ
  pub came : CameBy clients before.read after.read before.unread after.unread stopped line held (takings done) (handings done)
  pub said : Put
  pub waited : Satisfied (first_stage setup setup.arrivals) (calls_of log) ⊎ IsSome (stop_with stopped said)
  pub written : Puts before.said before.unsaid (said_text clients (sayings done)) said after.said after.unsaid
  pub head : List ℕ
  pub begins : script_of head ≡ Ok (with_arrivals setup [])
  pub asked : Asked before.moments after.moments (StoodAt clients before head done)
  pub reads : All BringsBytes setup.arrivals → script_of (head ++ notes_on done) ≡ Ok (with_hands setup (handings done))
  pub told : Put
  pub noted : Puts before.noted before.unnoted ((head ++ notes_on done) ++ held_text line held) told after.noted after.unnoted
  pub ends : ending ≡ ending_of (stop_with stopped said) said told
