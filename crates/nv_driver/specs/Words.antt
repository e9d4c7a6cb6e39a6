-- What the words of a command line ask for: the words of each command have `clap`'s meaning of a simple command.
use Rattle.std.specs.Prelude.{ℕ, List, [], ◌∷◌, Bool, ◌&&◌, ◌==◌, ◌+◌, ◌%◌, true, false, nat_le, if◌then◌else◌, Option, None, Some, option_map, option_and_then, max, length, map, string_bytes, codes, String}
use Rattle.std.specs.Global.{Global}
use Rattle.std.specs.Str.{bytes_eq}
use Rattle.std.specs.Option.{option_map_or}
use Rattle.clap.specs.Walk.{Row, Text, all_of, first_of}
use Rattle.clap.specs.Simple.{App, matches_of}
use Rattle.clap.specs.Kinds.{Kinds}
use Rattle.clap.specs.Faults.{fault_of}
use Rattle.nv_bytes.specs.Numbers.{number_of}
use Rattle.nv_driver.specs.Simple.{run_app, serve_app, record_app, replay_app, inspect_app, rules_app, asm_app, gen_app, help_app}
use Rattle.nv_driver.specs.declared.asked.Tool.{Tool}
use Rattle.nv_driver.specs.declared.asked.Tool.TheVariants.{CheckRules, AssembleRules, Assemble}

-- the words of a command line
abbrev pub texts : List (String Global) → List Text
texts words = map (λ word. string_bytes word) words

-- the matches, where there is no fault
abbrev pub unless_faulty : Kinds → List Row → Option (List Row)
unless_faulty [] rows = Some rows
unless_faulty (kind ∷ kinds) rows = None

-- what `clap` matches of these words, where it takes them
unfoldable pub rows_of_line : App → List Text → Option (List Row)
rows_of_line app words = unless_faulty (fault_of app words) (matches_of app words)

-- the number of a text, from the least to the most that it may be
abbrev pub number_between : ℕ → ℕ → Text → Option ℕ
number_between least most text = option_and_then (λ n. if nat_le least n && nat_le n most then Some n else None) (number_of text)

-- the number of an option, from the least to the most that it may be; the usual one where the option isn't given
abbrev pub number_within : ℕ → ℕ → ℕ → Option Text → Option ℕ
number_within usual least most None = Some usual
number_within usual least most (Some text) = number_between least most text

-- whole pages of 4096 bytes
abbrev pub in_pages : ℕ → Option ℕ
in_pages n = if n % 4096 == 0 then Some n else None

-- the limits of a run: places of the ring, bytes of a guest, instructions of a version and whether their count begins anew at each answer, events of the log,
-- threads of the host
pub record Limits : Type 0 where
  pub ring : ℕ
  pub memory : ℕ
  pub budget : ℕ
  pub renews : Bool
  pub calls : ℕ
  pub threads : ℕ

-- those of a run whose line names none
abbrev pub usual : Limits
usual = record { ring = 256; memory = 1048576; budget = 10000000; renews = false; calls = 65536; threads = 8 }

-- those of a service whose line names none: a run's, but with as many events as an option may ask for, and so many instructions after each answer
abbrev pub service_usual : Limits
service_usual = record usual { budget = 100000000; renews = true; calls = 500000000 }

-- each limit that a line asks for; the default's where its option isn't given
unfoldable pub ring_of : Limits → List Row → Option ℕ
ring_of defaults rows = number_within defaults.ring 2 1024 (first_of (codes "ring") rows)

unfoldable pub memory_of : Limits → List Row → Option ℕ
memory_of defaults rows = option_and_then in_pages (number_within defaults.memory 131072 16777216 (first_of (codes "memory") rows))

-- so many instructions of a version, and whether their count begins anew at each answer
pub record Allowance : Type 0 where
  pub budget : ℕ
  pub renews : Bool

abbrev pub allowed : Text → Bool → Option Allowance
allowed text renews = option_map (λ n. record { budget = n; renews = renews }) (number_between 1 1000000000 text)

-- by `--hang` they begin anew, by `--budget` they don't; a line has one of the two at most
abbrev pub allowance_from : Limits → Option Text → Option Text → Option Allowance
allowance_from defaults None None = Some (record { budget = defaults.budget; renews = defaults.renews })
allowance_from defaults (Some hang) None = allowed hang true
allowance_from defaults None (Some budget) = allowed budget false
allowance_from defaults (Some hang) (Some budget) = None

unfoldable pub allowance_of : Limits → List Row → Option Allowance
allowance_of defaults rows = allowance_from defaults (first_of (codes "hang") rows) (first_of (codes "budget") rows)

unfoldable pub calls_asked : Limits → List Row → Option ℕ
calls_asked defaults rows = number_within defaults.calls 1 (max 131072 defaults.calls) (first_of (codes "calls") rows)

unfoldable pub threads_asked : Limits → List Row → Option ℕ
threads_asked defaults rows = number_within defaults.threads 1 8 (first_of (codes "threads") rows)

unfoldable pub limits_of : Limits → List Row → Option Limits
limits_of defaults rows =
    option_and_then (λ ring. option_and_then (λ memory. option_and_then (λ allowance. option_and_then (λ calls. option_map (λ threads.
    record { ring = ring; memory = memory; budget = allowance.budget; renews = allowance.renews; calls = calls; threads = threads })
    (threads_asked defaults rows)) (calls_asked defaults rows)) (allowance_of defaults rows)) (memory_of defaults rows)) (ring_of defaults rows)

-- at most eight versions
unfoldable pub versions_asked : List Row → Option (List Text)
versions_asked rows = option_and_then (λ names. if nat_le (length names) 8 then Some names else None) (all_of (codes "version") rows)

-- the flag stands on the line
abbrev pub is_set : Text → List Row → Bool
is_set name rows = option_map_or (λ text. bytes_eq text (codes "true")) (first_of name rows) false

-- what the lines of a run and of a service share; no rules where no file of them is named
pub record Parts : Type 0 where
  pub rules : Option (List ℕ)
  pub versions : List (List ℕ)
  pub limits : Limits

unfoldable pub parts_of : Limits → List Row → Option Parts
parts_of defaults rows =
    option_and_then (λ versions. option_map (λ limits. record { rules = first_of (codes "rules") rows; versions = versions; limits = limits })
    (limits_of defaults rows)) (versions_asked rows)

-- the file that says what a run begins with, by its name; a transcript of a live run may be longer than a script
pub record ScriptFile : Type 0 where
  pub name : List ℕ
  pub transcript : Bool

-- the file of the one option that is given, of `--script` and `--transcript`
abbrev pub script_from : Option Text → Option Text → Option ScriptFile
script_from (Some name) None = Some (record { name = name; transcript = false })
script_from None (Some name) = Some (record { name = name; transcript = true })
script_from _ _ = None

unfoldable pub script_asked : List Row → Option ScriptFile
script_asked rows = script_from (first_of (codes "script") rows) (first_of (codes "transcript") rows)

-- what a run is asked for
pub record Plan : Type 0 where
  pub script : ScriptFile
  pub rules : Option (List ℕ)
  pub versions : List (List ℕ)
  pub limits : Limits
  pub json : Bool

unfoldable pub plan_of : Bool → List Row → Option Plan
plan_of json rows =
    option_and_then (λ script. option_map (λ parts.
    record { script = script; rules = parts.rules; versions = parts.versions; limits = parts.limits; json = json })
    (parts_of usual rows)) (script_asked rows)

-- the plan of a run that is reported
abbrev pub report_plan_of : List Row → Option Plan
report_plan_of rows = plan_of (is_set (codes "json") rows) rows

-- For so many milliseconds, an hour at most, the leader may have waited for a follower before that one is let go; without the option for ever. Only a service with
-- lines of clients has it.
abbrev pub patience_from : Bool → Option Text → Option (Option ℕ)
patience_from clients None = Some None
patience_from true (Some patience) = option_map Some (number_between 1 3600000 patience)
patience_from false (Some patience) = None

unfoldable pub patience_of : List Row → Option (Option ℕ)
patience_of rows = patience_from (is_set (codes "clients") rows) (first_of (codes "patience") rows)

-- what a service is asked for, a run whose input comes from outside: no script where none is named; whether clients come and go by lines on
-- standard input and output; after how long a follower is let go; whether each event is told on standard error
pub record Service : Type 0 where
  pub script : Option (List ℕ)
  pub rules : Option (List ℕ)
  pub versions : List (List ℕ)
  pub limits : Limits
  pub clients : Bool
  pub patience : Option ℕ
  pub log : Bool

unfoldable pub service_of : List Row → Option Service
service_of rows =
    option_and_then (λ parts. option_map (λ patience.
    record {
      script = first_of (codes "script") rows;
      rules = parts.rules;
      versions = parts.versions;
      limits = parts.limits;
      clients = is_set (codes "clients") rows;
      patience = patience;
      log = is_set (codes "log") rows;
    })
    (patience_of rows)) (parts_of service_usual rows)

-- the index that a version has in its rules
unfoldable pub index_of : List Row → Option ℕ
index_of rows = number_within 1 0 7 (first_of (codes "index") rows)

-- what one version is to follow: a trace of a run under this script
pub record Trail : Type 0 where
  pub script : ScriptFile
  pub rules : Option (List ℕ)
  pub trace : List ℕ
  pub version : List ℕ
  pub memory : ℕ
  pub budget : ℕ
  pub renews : Bool
  pub index : ℕ

unfoldable pub trail_of : List Row → Option Trail
trail_of rows =
    option_and_then (λ script. option_and_then (λ trace. option_and_then (λ version.
    option_and_then (λ memory. option_and_then (λ allowance. option_map (λ index.
    record { script = script; rules = first_of (codes "rules") rows; trace = trace; version = version; memory = memory; budget = allowance.budget; renews = allowance.renews; index = index })
    (index_of rows)) (allowance_of usual rows)) (memory_of usual rows))
    (first_of (codes "version") rows)) (first_of (codes "trace") rows)) (script_asked rows)

-- a point of a trace: before the event of this place; before the first event of this number; after so many instructions of the version
pub data Point : Type 0 where
  AtStamp : ℕ → Point
  AtCall : ℕ → Point
  AtCount : ℕ → Point

-- the point of exactly one of `--stamp`, `--call` and `--count`
abbrev pub point_from : Option Text → Option Text → Option Text → Option Point
point_from (Some stamp) None None = option_map AtStamp (number_of stamp)
point_from None (Some call) None = option_map AtCall (number_of call)
point_from None None (Some count) = option_map AtCount (number_between 1 1000000000 count)
point_from _ _ _ = None

unfoldable pub point_of : List Row → Option Point
point_of rows = point_from (first_of (codes "stamp") rows) (first_of (codes "call") rows) (first_of (codes "count") rows)

-- an address and a length of 1 to 4096 bytes, whose sum is an address
unfoldable pub range_of : Text → Text → Option (ℕ × ℕ)
range_of address length =
    option_and_then (λ address. option_and_then (λ length. if nat_le (address + length) 4294967295 then Some (address, length) else None)
    (number_between 1 4096 length)) (number_of address)

-- the bytes of memory that are shown, if any are: both of `--dump` and `--length`, or neither
abbrev pub dump_from : Option Text → Option Text → Option (Option (ℕ × ℕ))
dump_from None None = Some None
dump_from (Some address) (Some length) = option_map Some (range_of address length)
dump_from _ _ = None

unfoldable pub dump_of : List Row → Option (Option (ℕ × ℕ))
dump_of rows = dump_from (first_of (codes "dump") rows) (first_of (codes "length") rows)

-- what is shown: the version that follows a trail, at a point, and the bytes from an address
pub record Look : Type 0 where
  pub trail : Trail
  pub point : Point
  pub dump : Option (ℕ × ℕ)

unfoldable pub look_of : List Row → Option Look
look_of rows =
    option_and_then (λ trail. option_and_then (λ point. option_map (λ dump. record { trail = trail; point = point; dump = dump })
    (dump_of rows)) (point_of rows)) (trail_of rows)

-- a command over one file
pub record Job : Type 0 where
  pub tool : Tool
  pub file : List ℕ

unfoldable pub rules_job_of : List Row → Option Job
rules_job_of rows = option_map (λ file. record { tool = if is_set (codes "asm") rows then AssembleRules else CheckRules; file = file })
    (first_of (codes "file") rows)

unfoldable pub asm_job_of : List Row → Option Job
asm_job_of rows = option_map (λ file. record { tool = Assemble; file = file }) (first_of (codes "file") rows)

-- the number of a run that is made, 0 to 999,999
unfoldable pub number_in : List Row → Option ℕ
number_in rows = option_and_then (number_between 0 999999) (first_of (codes "number") rows)

-- the names of the commands
pub data Name : Type 0 where
  NamesRun : Name
  NamesServe : Name
  NamesRules : Name
  NamesAsm : Name
  NamesGen : Name
  NamesRecord : Name
  NamesReplay : Name
  NamesInspect : Name
  NamesHelp : Name

abbrev pub name_spelt : Text → Option Name
name_spelt word =
    if bytes_eq word (codes "run") then Some NamesRun
    else (if bytes_eq word (codes "serve") then Some NamesServe
    else (if bytes_eq word (codes "rules") then Some NamesRules
    else (if bytes_eq word (codes "asm") then Some NamesAsm
    else (if bytes_eq word (codes "gen") then Some NamesGen
    else (if bytes_eq word (codes "record") then Some NamesRecord
    else (if bytes_eq word (codes "replay") then Some NamesReplay
    else (if bytes_eq word (codes "inspect") then Some NamesInspect
    else (if bytes_eq word (codes "usage") then Some NamesHelp else None))))))))

-- what help is asked for: a command, or all of them where none is named
abbrev pub topic_from : Option Text → Option (Option Name)
topic_from None = Some None
topic_from (Some word) = option_map Some (name_spelt word)

unfoldable pub topic_of : List Row → Option (Option Name)
topic_of rows = topic_from (first_of (codes "command") rows)

pub data Command : Type 0 where
  Runs : Plan → Command
  Serves : Service → Command
  Uses : Job → Command
  Generates : (number : ℕ) → Command
  Records : Plan → Command
  Replays : Trail → Command
  Inspects : Look → Command
  Helps : (topic : Option Name) → Command

-- the words of `run`, from its name on
unfoldable pub run_line : List Text → Option Plan
run_line words = option_and_then report_plan_of (rows_of_line run_app words)

-- the words of `serve`
unfoldable pub serve_line : List Text → Option Service
serve_line words = option_and_then service_of (rows_of_line serve_app words)

-- the words of `rules`
unfoldable pub rules_line : List Text → Option Job
rules_line words = option_and_then rules_job_of (rows_of_line rules_app words)

-- the words of `asm`
unfoldable pub asm_line : List Text → Option Job
asm_line words = option_and_then asm_job_of (rows_of_line asm_app words)

-- the words of `gen`
unfoldable pub gen_line : List Text → Option ℕ
gen_line words = option_and_then number_in (rows_of_line gen_app words)

-- the words of `record`
unfoldable pub record_line : List Text → Option Plan
record_line words = option_and_then (plan_of false) (rows_of_line record_app words)

-- the words of `replay`
unfoldable pub replay_line : List Text → Option Trail
replay_line words = option_and_then trail_of (rows_of_line replay_app words)

-- the words of `inspect`
unfoldable pub inspect_line : List Text → Option Look
inspect_line words = option_and_then look_of (rows_of_line inspect_app words)

-- the words of `help`
unfoldable pub help_line : List Text → Option (Option Name)
help_line words = option_and_then topic_of (rows_of_line help_app words)

-- what the words from the command's name on ask for
abbrev pub asked_by : List Text → Name → Option Command
asked_by words NamesRun = option_map Runs (run_line words)
asked_by words NamesServe = option_map Serves (serve_line words)
asked_by words NamesRules = option_map Uses (rules_line words)
asked_by words NamesAsm = option_map Uses (asm_line words)
asked_by words NamesGen = option_map Generates (gen_line words)
asked_by words NamesRecord = option_map Records (record_line words)
asked_by words NamesReplay = option_map Replays (replay_line words)
asked_by words NamesInspect = option_map Inspects (inspect_line words)
asked_by words NamesHelp = option_map Helps (help_line words)

-- the second word names the command, the first one the program
abbrev pub command_name : List Text → Option Name
command_name (program ∷ word ∷ words) = name_spelt word
command_name _ = None

abbrev pub after_program : List Text → List Text
after_program [] = []
after_program (program ∷ words) = words

-- what the words ask for, if they are accepted
unfoldable pub command_of : List Text → Option Command
command_of words = option_and_then (asked_by (after_program words)) (command_name words)
