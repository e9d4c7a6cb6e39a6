-- The text of a filter, as `tcpdump -ddd` prints it: the count, then a line with code, jt, jf and k for each instruction.
use Rattle.std.specs.Prelude.{ℕ, zero, suc, List, [], ◌∷◌, ◌++◌, Option, Some, None, Result, Ok, Err, if◌then◌else◌, ◌==◌, nat_lt, nat_le, ◌+◌, ◌^◌, ◌<◌, length, flat_map, option_and_then}
use Rattle.nv_bytes.specs.Fields.{fields}
use Rattle.nv_bytes.specs.Lines.{lines}
use Rattle.nv_bytes.specs.Numbers.{number_of, decimal_of}
use Rattle.nv_bpf.specs.declared.op.Op.{Op}
use Rattle.nv_bpf.specs.declared.op.FilterFault.{FilterFault}
use Rattle.nv_bpf.specs.declared.op.FilterFault.TheVariants as fault
use Rattle.nv_bpf.specs.Verified.{verified}

abbrev pub at_most : ℕ → ℕ → Option ℕ
at_most most n = if nat_le n most then Some n else None

-- a number that is at most this
unfoldable pub field : ℕ → List ℕ → Option ℕ
field most text = option_and_then (at_most most) (number_of text)

abbrev pub op_with : Option ℕ → Option ℕ → Option ℕ → Option ℕ → Option Op
op_with (Some code) (Some jt) (Some jf) (Some k) = Some (record { code = code; jt = jt; jf = jf; k = k })
op_with _ _ _ _ = None

abbrev pub op_of_fields : List (List ℕ) → Option Op
op_of_fields (code ∷ jt ∷ jf ∷ k ∷ []) = op_with (field 65535 code) (field 255 jt) (field 255 jf) (number_of k)
op_of_fields _ = None

-- the instruction of a line
unfoldable pub op_of : List ℕ → Option Op
op_of line = op_of_fields (fields line)

abbrev pub put_first : Op → Result (List Op) FilterFault → Result (List Op) FilterFault
put_first op (Ok ops) = Ok (op ∷ ops)
put_first op (Err f) = Err f

abbrev pub with_line : ℕ → Option Op → Result (List Op) FilterFault → Result (List Op) FilterFault
with_line n None later = Err (fault.Line n)
with_line n (Some op) later = put_first op later

-- so many instructions, from the lines from number n on
unfoldable pub ops_of : ℕ → ℕ → List (List ℕ) → Result (List Op) FilterFault
ops_of n zero [] = Ok []
ops_of n zero (l ∷ ls) = Err fault.Count
ops_of n (suc count) [] = Err fault.Count
ops_of n (suc count) (l ∷ ls) = with_line n (op_of l) (ops_of (n + 1) count ls)

-- how many lines follow the first one
abbrev pub line_count : ℕ → Option ℕ → Result ℕ FilterFault
line_count most None = Err (fault.Line 1)
line_count most (Some count) = if count == 0 then Err fault.Empty else (if nat_lt most count then Err fault.TooLong else Ok count)

abbrev pub ops_after : Result ℕ FilterFault → List (List ℕ) → Result (List Op) FilterFault
ops_after (Ok count) ls = ops_of 2 count ls
ops_after (Err f) ls = Err f

abbrev pub ops_of_lines : ℕ → List (List ℕ) → Result (List Op) FilterFault
ops_of_lines most [] = Err (fault.Line 1)
ops_of_lines most (l ∷ ls) = ops_after (line_count most (number_of l)) ls

-- the instructions of a text, which may have so many, or the first fault of its lines
unfoldable pub ops_of_text : ℕ → List ℕ → Result (List Op) FilterFault
ops_of_text most text = ops_of_lines most (lines text)

abbrev pub filter_with : ℕ → Result (List Op) FilterFault → Result (List Op) FilterFault
filter_with most (Ok ops) = verified most ops
filter_with most (Err f) = Err f

-- the filter of a text, or its first fault
unfoldable pub filter_of : ℕ → List ℕ → Result (List Op) FilterFault
filter_of most text = filter_with most (ops_of_text most text)

-- a number with what ends it
abbrev pub ended_number : ℕ → ℕ → List ℕ
ended_number n end = decimal_of n ++ end ∷ []

abbrev pub op_text : Op → List ℕ
op_text op = ended_number op.code 32 ++ (ended_number op.jt 32 ++ (ended_number op.jf 32 ++ ended_number op.k 10))

-- the text of a filter: each line ends with a newline, and no number has a leading zero
unfoldable pub ops_text : List Op → List ℕ
ops_text ops = ended_number (length ops) 10 ++ flat_map op_text ops

-- each field is in its range
pub record FitsFields (op : Op) : Type 0 where
  pub code : op.code < 2 ^ 16
  pub jt : op.jt < 2 ^ 8
  pub jf : op.jf < 2 ^ 8
  pub k : op.k < 2 ^ 32
