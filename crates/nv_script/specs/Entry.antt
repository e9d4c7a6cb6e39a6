-- What a line of a script says, by itself.
use Rattle.std.specs.Prelude.{ℕ, Bool, true, false, not, ◌&&◌, ◌||◌, List, [], ◌∷◌, ◌++◌, Option, Some, None, Result, Ok, Err, if◌then◌else◌, ◌==◌, nat_lt, nat_le, length, bytes_eq, codes, option_map}
use Rattle.std.specs.Option.{ok_or}
use Rattle.std.specs.List.{list_all}
use Rattle.nv_bytes.specs.Numbers.{number_of, unhexed}
use Rattle.nv_bytes.specs.Fields.{first_word, rest_of, fields}
use Rattle.nv_bytes.specs.Names.{defined}
use Rattle.nv_script.specs.declared.arrival.ArrivalCause.{ArrivalCause}
use Rattle.nv_script.specs.declared.arrival.ArrivalCause.TheVariants as arrival
use Rattle.nv_script.specs.Arrivals.{Arrival}
use Rattle.nv_script.specs.Reading.{is_word as is_arrival_word, is_timeless_word, arrival_of}
use Rattle.nv_script.specs.declared.entry.Clock.{Clock}
use Rattle.nv_script.specs.declared.fault.ScriptCause.{ScriptCause}
use Rattle.nv_script.specs.declared.fault.ScriptCause.TheVariants.{Word, Shape, Range, Twice, Long}
use Rattle.nv_script.specs.declared.form.Form.{Form}
use Rattle.nv_script.specs.declared.form.Form.TheVariants as form
use Rattle.nv_script.specs.declared.kind.Kind.{Kind}
use Rattle.nv_script.specs.declared.kind.Kind.TheVariants as kind

-- what a line says
pub data Entry : Type 0 where
  -- nothing: an empty line or a comment
  Nothing : Entry
  Argument : List ℕ → Entry
  -- more input
  Input : List ℕ → Entry
  -- a file's name and its content
  File : List ℕ → List ℕ → Entry
  Time : Clock → Entry
  Seed : ℕ → Entry
  -- a length of the log at which the leader hands over
  Hand : ℕ → Entry
  -- a connection's port and what it sends
  Connection : ℕ → List ℕ → Entry
  -- what comes next
  Arrives : Arrival → Entry

-- ---- the five forms

-- the form that a first line names
unfoldable pub form_of : List ℕ → Option Form
form_of line = if bytes_eq line (codes "varan-script 1") then Some form.First
    else (if bytes_eq line (codes "varan-script 2") then Some form.Second
    else (if bytes_eq line (codes "varan-script 3") then Some form.Third
    else (if bytes_eq line (codes "varan-script 4") then Some form.Fourth
    else (if bytes_eq line (codes "varan-script 5") then Some form.Fifth
    else None))))

-- the fifth form alone has the calls that wait for several things at once
abbrev pub is_fifth : Form → Bool
is_fifth form.First = false
is_fifth form.Second = false
is_fifth form.Third = false
is_fifth form.Fourth = false
is_fifth form.Fifth = true

-- ---- arguments and names of files

-- 0x20 to 0x7E
abbrev pub is_printable : ℕ → Bool
is_printable b = nat_le 32 b && nat_le b 126

unfoldable pub is_argument : List ℕ → Bool
is_argument text = nat_lt 0 (length text) && list_all is_printable text

-- 0x21 to 0x7E without `/`
abbrev pub is_file_byte : ℕ → Bool
is_file_byte b = nat_le 33 b && (nat_le b 126 && not (b == 47))

abbrev pub is_dots : List ℕ → Bool
is_dots name = bytes_eq name (codes ".") || bytes_eq name (codes "..")

unfoldable pub is_file_name : List ℕ → Bool
is_file_name name = nat_lt 0 (length name) && (nat_le (length name) 255 && (list_all is_file_byte name && not (is_dots name)))

-- ---- lines

-- the words that begin a line
unfoldable pub entry_kinds : List (List ℕ × Kind)
entry_kinds =
    (codes "arg", kind.Argument) ∷ (codes "line", kind.Line) ∷ (codes "input", kind.Input) ∷ (codes "file", kind.File) ∷
    (codes "clock", kind.Clock) ∷ (codes "random", kind.Random) ∷ (codes "hand", kind.Hand) ∷
    (codes "connect", kind.Connect) ∷ []

-- a script of the first form has no `hand`, and one of the first two has no `connect`
abbrev pub in_form : Form → Option Kind → Option Kind
in_form form.First (Some kind.Hand) = None
in_form form.First (Some kind.Connect) = None
in_form form.Second (Some kind.Connect) = None
in_form f found = found

unfoldable pub kind_of : Form → List ℕ → Option Kind
kind_of f word = in_form f (defined entry_kinds word)

-- an entry, where the line has its shape
abbrev pub shaped : Option Entry → Result Entry ScriptCause
shaped found = ok_or found Shape

abbrev pub argument_entry : List ℕ → Option Entry
argument_entry text = if is_argument text then Some (Argument text) else None

abbrev pub file_with : List ℕ → Option (List ℕ) → Option Entry
file_with name content = if is_file_name name then option_map (λ bytes. File name bytes) content else None

-- `NAME HEX` or `NAME`
abbrev pub file_entry : List (List ℕ) → Option Entry
file_entry (name ∷ []) = file_with name (Some [])
file_entry (name ∷ hex ∷ []) = file_with name (unhexed hex)
file_entry _ = None

-- at most 999,999,999 nanoseconds, and steps of at most 1,000,000,000
abbrev pub clock_fits : Clock → Bool
clock_fits clock = nat_le clock.nanos 999999999 && nat_le clock.step 1000000000

abbrev pub clock_entry : Clock → Result Entry ScriptCause
clock_entry clock = if clock_fits clock then Ok (Time clock) else Err Range

abbrev pub clock_with : Option ℕ → Option ℕ → Option ℕ → Result Entry ScriptCause
clock_with (Some seconds) (Some nanos) (Some step) = clock_entry (record { seconds = seconds; nanos = nanos; step = step })
clock_with _ _ _ = Err Shape

-- `S N STEP`
abbrev pub clock_of : List (List ℕ) → Result Entry ScriptCause
clock_of (seconds ∷ nanos ∷ step ∷ []) = clock_with (number_of seconds) (number_of nanos) (number_of step)
clock_of _ = Err Shape

-- 1 to 131,072
abbrev pub is_hand : ℕ → Bool
is_hand n = nat_le 1 n && nat_le n 131072

abbrev pub hand_entry : ℕ → Result Entry ScriptCause
hand_entry n = if is_hand n then Ok (Hand n) else Err Range

abbrev pub hand_with : Option ℕ → Result Entry ScriptCause
hand_with (Some n) = hand_entry n
hand_with None = Err Shape

-- 1 to 65,535
abbrev pub is_port : ℕ → Bool
is_port n = nat_le 1 n && nat_le n 65535

abbrev pub connection_entry : ℕ → List ℕ → Result Entry ScriptCause
connection_entry port input = if is_port port then Ok (Connection port input) else Err Range

abbrev pub connection_with : Option ℕ → Option (List ℕ) → Result Entry ScriptCause
connection_with (Some port) (Some input) = connection_entry port input
connection_with _ _ = Err Shape

-- `PORT HEX` or `PORT`
abbrev pub connection_of : List (List ℕ) → Result Entry ScriptCause
connection_of (port ∷ []) = connection_with (number_of port) (Some [])
connection_of (port ∷ hex ∷ []) = connection_with (number_of port) (unhexed hex)
connection_of _ = Err Shape

-- a line by its kind and the rest after the word's space
abbrev pub entry_by : Kind → List ℕ → Result Entry ScriptCause
entry_by kind.Argument rest = shaped (argument_entry rest)
entry_by kind.Line rest = Ok (Input (rest ++ codes "\n"))
entry_by kind.Input rest = shaped (option_map Input (unhexed rest))
entry_by kind.File rest = shaped (file_entry (fields rest))
entry_by kind.Clock rest = clock_of (fields rest)
entry_by kind.Random rest = shaped (option_map Seed (number_of rest))
entry_by kind.Hand rest = hand_with (number_of rest)
entry_by kind.Connect rest = connection_of (fields rest)

abbrev pub entry_with : Option Kind → Option (List ℕ) → Result Entry ScriptCause
entry_with None rest = Err Word
entry_with (Some k) None = Err Shape
entry_with (Some k) (Some rest) = entry_by k rest

-- an empty line, and one that begins with `#`
abbrev pub is_passed_over : List ℕ → Bool
is_passed_over [] = true
is_passed_over (b ∷ bs) = b == 35

abbrev pub cause_of : ArrivalCause → ScriptCause
cause_of arrival.Word = Word
cause_of arrival.Shape = Shape
cause_of arrival.Range = Range
cause_of arrival.Twice = Twice
cause_of arrival.Long = Long

abbrev pub arrives : Result Arrival ArrivalCause → Result Entry ScriptCause
arrives (Ok a) = Ok (Arrives a)
arrives (Err c) = Err (cause_of c)

-- in a script of the fourth or the fifth form, and in no other, the words of arrivals say what comes next; the time is in the fifth alone
abbrev pub begins_arrival : Form → List ℕ → Bool
begins_arrival form.Fourth line = is_timeless_word (first_word line)
begins_arrival form.Fifth line = is_arrival_word (first_word line)
begins_arrival f line = false

-- what a line after the first says, or its first cause of those that it has by itself
unfoldable pub entry_of : Form → List ℕ → Result Entry ScriptCause
entry_of f line = if is_passed_over line then Ok Nothing
    else (if begins_arrival f line then arrives (arrival_of line) else entry_with (kind_of f (first_word line)) (rest_of line))
