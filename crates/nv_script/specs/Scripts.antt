-- What a script means: what a run begins with, or the first faulty line with its first cause.
use Rattle.std.specs.Prelude.{ℕ, Bool, true, not, ◌&&◌, List, [], ◌∷◌, ◌++◌, Option, Some, None, is_some, unwrap_or, Result, Ok, Err, if◌then◌else◌, nat_lt, nat_le, ◌+◌, ◌^◌, ◌==◌, length, bytes_eq}
use Rattle.std.specs.List.{list_all, list_any}
use Rattle.nv_bytes.specs.Lines.{lines, line_number}
use Rattle.nv_script.specs.declared.arrival.ArrivalCause.{ArrivalCause}
use Rattle.nv_script.specs.Arrivals.{Arrival}
use Rattle.nv_script.specs.Order.{Came, most_clients, nothing_came, admitted, are_arrivals}
use Rattle.nv_script.specs.declared.entry.Clock.{Clock}
use Rattle.nv_script.specs.declared.form.Form.{Form}
use Rattle.nv_script.specs.declared.fault.ScriptCause.{ScriptCause}
use Rattle.nv_script.specs.declared.fault.ScriptCause.TheVariants as cause
use Rattle.nv_script.specs.declared.fault.ScriptCause.TheVariants.{Twice, Long}
use Rattle.nv_script.specs.declared.fault.ScriptFault.{ScriptFault}
use Rattle.nv_script.specs.declared.fault.ScriptFault.TheVariants.{Line}
use Rattle.nv_script.specs.Entry.{Entry, Nothing, Argument, Input, File, Time, Seed, Hand, Connection, Arrives, form_of, is_fifth, is_argument, is_file_name, is_hand, is_port, cause_of, entry_of}

-- a file's name and its content
abbrev pub Named : Type 0
Named = List ℕ × List ℕ

-- a connection's port and what it sends
abbrev pub Incoming : Type 0
Incoming = ℕ × List ℕ

-- what a run begins with
pub record Setup : Type 0 where
  pub arguments : List (List ℕ)
  pub input : List ℕ
  pub files : List Named
  pub seconds : ℕ
  pub nanos : ℕ
  pub step : ℕ
  pub seed : ℕ
  pub hands : List ℕ
  pub connections : List Incoming
  pub arrivals : List Arrival
  -- the calls that wait for several things at once are in the table
  pub polls : Bool

-- ---- line after line

-- what the lines so far say
pub record Draft : Type 0 where
  pub arguments : List (List ℕ)
  pub input : List ℕ
  pub files : List Named
  pub clock : Option Clock
  pub seed : Option ℕ
  pub hands : List ℕ
  pub connections : List Incoming
  -- what comes, and what has come with it
  pub arrivals : List Arrival
  pub came : Came

-- how many clients may come is by the form
abbrev pub blank : Form → Draft
blank f = record { arguments = []; input = []; files = []; clock = None; seed = None; hands = []; connections = []; arrivals = []; came = nothing_came (most_clients (is_fifth f)) }

abbrev pub has_name : List ℕ → List Named → Bool
has_name name files = list_any (λ file. bytes_eq name file.0) files

-- at most 256 arguments
unfoldable pub with_argument : List ℕ → Draft → Result Draft ScriptCause
with_argument text draft = if nat_lt (length draft.arguments) 256
    then Ok (record draft { arguments = draft.arguments ++ text ∷ [] })
    else Err Long

abbrev pub with_input : List ℕ → Draft → Result Draft ScriptCause
with_input bytes draft = Ok (record draft { input = draft.input ++ bytes })

-- each name once, and at most 256 files of at most 1,048,576 bytes
unfoldable pub with_named_file : List ℕ → List ℕ → Draft → Result Draft ScriptCause
with_named_file name content draft = if has_name name draft.files then Err Twice
    else (if nat_lt (length draft.files) 256 && nat_le (length content) 1048576
    then Ok (record draft { files = draft.files ++ (name, content) ∷ [] })
    else Err Long)

-- one clock
abbrev pub with_clock : Clock → Draft → Result Draft ScriptCause
with_clock clock draft = if is_some draft.clock then Err Twice else Ok (record draft { clock = Some clock })

-- one seed
abbrev pub with_seed : ℕ → Draft → Result Draft ScriptCause
with_seed seed draft = if is_some draft.seed then Err Twice else Ok (record draft { seed = Some seed })

abbrev pub has_hand : ℕ → List ℕ → Bool
has_hand n hands = list_any (λ k. k == n) hands

-- each length once, and at most 8 of them
abbrev pub with_hand : ℕ → Draft → Result Draft ScriptCause
with_hand n draft = if has_hand n draft.hands then Err Twice
    else (if nat_lt (length draft.hands) 8
    then Ok (record draft { hands = draft.hands ++ n ∷ [] })
    else Err Long)

-- at most 64 connections, which send at most 1,048,576 bytes each
unfoldable pub with_connection : ℕ → List ℕ → Draft → Result Draft ScriptCause
with_connection port input draft = if nat_lt (length draft.connections) 64 && nat_le (length input) 1048576
    then Ok (record draft { connections = draft.connections ++ (port, input) ∷ [] })
    else Err Long

abbrev pub with_came : Arrival → Result Came ArrivalCause → Draft → Result Draft ScriptCause
with_came a (Ok now) draft = Ok (record draft { arrivals = draft.arrivals ++ a ∷ []; came = now })
with_came a (Err c) draft = Err (cause_of c)

-- what may come after those before it
abbrev pub with_arrival : Arrival → Draft → Result Draft ScriptCause
with_arrival a draft = with_came a (admitted a draft.came) draft

abbrev pub with_entry : Entry → Draft → Result Draft ScriptCause
with_entry Nothing draft = Ok draft
with_entry (Argument text) draft = with_argument text draft
with_entry (Input bytes) draft = with_input bytes draft
with_entry (File name content) draft = with_named_file name content draft
with_entry (Time clock) draft = with_clock clock draft
with_entry (Seed seed) draft = with_seed seed draft
with_entry (Hand n) draft = with_hand n draft
with_entry (Connection port input) draft = with_connection port input draft
with_entry (Arrives a) draft = with_arrival a draft

abbrev pub with_result : Result Entry ScriptCause → Draft → Result Draft ScriptCause
with_result (Ok entry) draft = with_entry entry draft
with_result (Err cause) draft = Err cause

unfoldable pub with_script_line : Form → List ℕ → Draft → Result Draft ScriptCause
with_script_line f line draft = with_result (entry_of f line) draft

abbrev pub onward : ℕ → Result Draft ScriptCause → (Draft → Result Draft ScriptFault) → Result Draft ScriptFault
onward n (Ok draft) later = later draft
onward n (Err cause) later = Err (Line (line_number n) cause)

-- what lines after n others make of a draft, or the first faulty line
unfoldable pub drafted : Form → ℕ → List (List ℕ) → Draft → Result Draft ScriptFault
drafted f n [] draft = Ok draft
drafted f n (line ∷ rest) draft = onward n (with_script_line f line draft) (λ next. drafted f (n + 1) rest next)

-- ---- the whole text

-- without a clock line it is 0 and stands still
abbrev pub no_clock : Clock
no_clock = record { seconds = 0; nanos = 0; step = 0 }

abbrev pub setup_with : Form → Clock → Draft → Setup
setup_with f clock draft = record {
  arguments = draft.arguments;
  input = draft.input;
  files = draft.files;
  seconds = clock.seconds;
  nanos = clock.nanos;
  step = clock.step;
  seed = unwrap_or draft.seed 0;
  hands = draft.hands;
  connections = draft.connections;
  arrivals = draft.arrivals;
  polls = is_fifth f;
}

abbrev pub finished : Form → Draft → Setup
finished f draft = setup_with f (unwrap_or draft.clock no_clock) draft

abbrev pub finished_result : Form → Result Draft ScriptFault → Result Setup ScriptFault
finished_result f (Ok draft) = Ok (finished f draft)
finished_result f (Err fault) = Err fault

abbrev pub no_form : Result Setup ScriptFault
no_form = Err (Line 1 cause.Form)

-- the lines after the first, by the form that the first names
abbrev pub script_in : Option Form → List (List ℕ) → Result Setup ScriptFault
script_in None rest = no_form
script_in (Some f) rest = finished_result f (drafted f 1 rest (blank f))

abbrev pub script_of_lines : List (List ℕ) → Result Setup ScriptFault
script_of_lines [] = no_form
script_of_lines (first ∷ rest) = script_in (form_of first) rest

-- what a script means
unfoldable pub script_of : List ℕ → Result Setup ScriptFault
script_of bytes = script_of_lines (lines bytes)

-- ---- what every script keeps to

abbrev pub is_file : Named → Bool
is_file file = is_file_name file.0 && nat_le (length file.1) 1048576

-- no two files have one name
abbrev pub are_distinct : List Named → Bool
are_distinct [] = true
are_distinct (file ∷ files) = not (has_name file.0 files) && are_distinct files

-- at most 256 files, of at most 1,048,576 bytes each, by names that differ
unfoldable pub are_files : List Named → Bool
are_files files = nat_le (length files) 256 && (list_all is_file files && are_distinct files)

-- no number stands here twice
abbrev pub differ : List ℕ → Bool
differ [] = true
differ (n ∷ ns) = not (has_hand n ns) && differ ns

-- at most 8 lengths to hand over at, from 1 to 131,072, no two of them the same
unfoldable pub are_hands : List ℕ → Bool
are_hands hands = nat_le (length hands) 8 && (list_all is_hand hands && differ hands)

abbrev pub is_connection : Incoming → Bool
is_connection connection = is_port connection.0 && nat_le (length connection.1) 1048576

-- at most 64 connections, from ports 1 to 65,535, of at most 1,048,576 bytes each
unfoldable pub are_connections : List Incoming → Bool
are_connections connections = nat_le (length connections) 64 && list_all is_connection connections

-- at most 256 arguments, files, lengths and connections as above, numbers within their limits, and arrivals that may come after one another, with as many clients as its form may have
unfoldable pub is_script : Setup → Bool
is_script setup = nat_le (length setup.arguments) 256 && (list_all is_argument setup.arguments && (are_files setup.files
    && (nat_lt setup.seconds (2 ^ 32) && (nat_le setup.nanos 999999999 && (nat_le setup.step 1000000000 && (nat_lt setup.seed (2 ^ 32) && (are_hands setup.hands
    && (are_connections setup.connections && are_arrivals (most_clients setup.polls) setup.arrivals))))))))
