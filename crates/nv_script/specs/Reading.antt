-- What an arrival's line says.
use Rattle.std.specs.Prelude.{ℕ, Bool, true, false, List, [], ◌∷◌, ◌++◌, Option, Some, None, is_some, Result, Ok, Err, if◌then◌else◌, ◌==◌, nat_lt, nat_le, length, bytes_eq, codes}
use Rattle.nv_bytes.specs.Numbers.{number_of, unhexed}
use Rattle.nv_bytes.specs.Fields.{first_word, rest_of}
use Rattle.nv_bytes.specs.Names.{defined}
use Rattle.nv_script.specs.declared.arrival.ArrivalCause.{ArrivalCause}
use Rattle.nv_script.specs.declared.arrival.ArrivalCause.TheVariants as cause
use Rattle.nv_script.specs.declared.word.Word.{Word}
use Rattle.nv_script.specs.declared.word.Word.TheVariants as word
use Rattle.nv_script.specs.Arrivals.{Arrival, Input, InputEnd, ClientsEnd, Connect, Data, End, Time, is_port, is_nanos}

-- the words that begin a line
unfoldable pub words : List (List ℕ × Word)
words =
    (codes "line", word.Line) ∷ (codes "input", word.Input) ∷ (codes "connect", word.Connect) ∷ (codes "data", word.Data) ∷
    (codes "end", word.End) ∷ (codes "time", word.Time) ∷ []

abbrev pub word_of : List ℕ → Option Word
word_of text = defined words text

abbrev pub is_word : List ℕ → Bool
is_word text = is_some (word_of text)

-- an arrival's, but not that of the time
abbrev pub is_timeless : Option Word → Bool
is_timeless None = false
is_timeless (Some word.Time) = false
is_timeless (Some word.Line) = true
is_timeless (Some word.Input) = true
is_timeless (Some word.Connect) = true
is_timeless (Some word.Data) = true
is_timeless (Some word.End) = true

abbrev pub is_timeless_word : List ℕ → Bool
is_timeless_word text = is_timeless (word_of text)

-- some bytes, and not too many
abbrev pub sized : List ℕ → Result (List ℕ) ArrivalCause
sized bytes = if length bytes == 0 then Err cause.Shape else (if nat_le (length bytes) 2000 then Ok bytes else Err cause.Long)

abbrev pub bytes_of : Option (List ℕ) → Result (List ℕ) ArrivalCause
bytes_of None = Err cause.Shape
bytes_of (Some bytes) = sized bytes

-- `line TEXT`: the text and a newline
abbrev pub line_arrival : List ℕ → Result Arrival ArrivalCause
line_arrival text = if nat_lt (length text) 2000 then Ok (Input (text ++ codes "\n")) else Err cause.Long

-- `input HEX`
abbrev pub input_with : Result (List ℕ) ArrivalCause → Result Arrival ArrivalCause
input_with (Ok bytes) = Ok (Input bytes)
input_with (Err c) = Err c

-- `connect PORT`
abbrev pub connect_with : Option ℕ → Result Arrival ArrivalCause
connect_with None = Err cause.Shape
connect_with (Some port) = if is_port port then Ok (Connect port) else Err cause.Range

-- `data N HEX`
abbrev pub data_with : Option ℕ → Result (List ℕ) ArrivalCause → Result Arrival ArrivalCause
data_with None bytes = Err cause.Shape
data_with (Some n) (Err c) = Err c
data_with (Some n) (Ok bytes) = Ok (Data n bytes)

abbrev pub data_parts : List ℕ → Option (List ℕ) → Result Arrival ArrivalCause
data_parts client None = Err cause.Shape
data_parts client (Some hex) = data_with (number_of client) (bytes_of (unhexed hex))

abbrev pub data_in : List ℕ → Result Arrival ArrivalCause
data_in text = data_parts (first_word text) (rest_of text)

-- `end input`, `end clients` or `end N`
abbrev pub end_with : Option ℕ → Result Arrival ArrivalCause
end_with (Some n) = Ok (End n)
end_with None = Err cause.Shape

abbrev pub end_of : List ℕ → Result Arrival ArrivalCause
end_of text = if bytes_eq text (codes "input") then Ok InputEnd else (if bytes_eq text (codes "clients") then Ok ClientsEnd else end_with (number_of text))

-- `time S N`
abbrev pub time_with : Option ℕ → Option ℕ → Result Arrival ArrivalCause
time_with (Some seconds) (Some nanos) = if is_nanos nanos then Ok (Time seconds nanos) else Err cause.Range
time_with _ _ = Err cause.Shape

abbrev pub time_parts : List ℕ → Option (List ℕ) → Result Arrival ArrivalCause
time_parts seconds None = Err cause.Shape
time_parts seconds (Some nanos) = time_with (number_of seconds) (number_of nanos)

abbrev pub time_in : List ℕ → Result Arrival ArrivalCause
time_in text = time_parts (first_word text) (rest_of text)

-- a line by its word and the rest after the word's space
abbrev pub arrival_by : Word → List ℕ → Result Arrival ArrivalCause
arrival_by word.Line rest = line_arrival rest
arrival_by word.Input rest = input_with (bytes_of (unhexed rest))
arrival_by word.Connect rest = connect_with (number_of rest)
arrival_by word.Data rest = data_in rest
arrival_by word.End rest = end_of rest
arrival_by word.Time rest = time_in rest

abbrev pub arrival_with : Option Word → Option (List ℕ) → Result Arrival ArrivalCause
arrival_with None rest = Err cause.Word
arrival_with (Some w) None = Err cause.Shape
arrival_with (Some w) (Some rest) = arrival_by w rest

-- the arrival of a line, or its first cause
unfoldable pub arrival_of : List ℕ → Result Arrival ArrivalCause
arrival_of line = arrival_with (word_of (first_word line)) (rest_of line)
