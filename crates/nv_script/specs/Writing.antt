-- The line of an arrival.
use Rattle.std.specs.Prelude.{ℕ, Bool, ◌&&◌, List, ◌++◌, if◌then◌else◌, ◌==◌, nat_le, ◌-◌, length, take, get_or, codes}
use Rattle.std.specs.List.{list_all}
use Rattle.nv_bytes.specs.Numbers.{decimal_of, hex_of}
use Rattle.nv_script.specs.Arrivals.{Arrival, Input, InputEnd, ClientsEnd, Connect, Data, End, Time}

-- 0x20 to 0x7E
abbrev pub is_printable : ℕ → Bool
is_printable b = nat_le 32 b && nat_le b 126

-- all but the last
abbrev pub front : List ℕ → List ℕ
front bytes = take (length bytes - 1) bytes

-- a printable text and its newline
unfoldable pub is_line : List ℕ → Bool
is_line bytes = (get_or bytes (length bytes - 1) 0 == 10) && list_all is_printable (front bytes)

-- a text as it stands, where it is one
abbrev pub input_text : List ℕ → List ℕ
input_text bytes = if is_line bytes then codes "line " ++ front bytes else codes "input " ++ hex_of bytes

-- the line of an arrival, without its newline
unfoldable pub line_text : Arrival → List ℕ
line_text (Input bytes) = input_text bytes
line_text InputEnd = codes "end input"
line_text ClientsEnd = codes "end clients"
line_text (Connect port) = codes "connect " ++ decimal_of port
line_text (Data n bytes) = codes "data " ++ (decimal_of n ++ (codes " " ++ hex_of bytes))
line_text (End n) = codes "end " ++ decimal_of n
line_text (Time seconds nanos) = codes "time " ++ (decimal_of seconds ++ (codes " " ++ decimal_of nanos))
