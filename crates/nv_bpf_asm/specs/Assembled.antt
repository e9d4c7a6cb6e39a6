-- What a rule text means: its filter, its least faulty line with the first cause there, or why its instructions are no filter.
use Rattle.std.specs.Prelude.{ℕ, Bool, false, not, ◌&&◌, List, [], ◌∷◌, Option, Some, None, Result, Ok, Err, if◌then◌else◌, ◌==◌, nat_lt, nat_le, ◌+◌, ◌-◌, ◌^◌, min}
use Rattle.nv_bpf.specs.declared.op.Op.{Op}
use Rattle.nv_bpf.specs.declared.op.FilterFault.{FilterFault}
use Rattle.nv_bpf.specs.Verified.{verified}
use Rattle.nv_bytes.specs.Lines.{Parts, lines, line_number, line_of, prefix}
use Rattle.nv_bytes.specs.Names.{defined, defining}
use Rattle.nv_bpf_asm.specs.declared.label.Label.{Label}
use Rattle.nv_bpf_asm.specs.declared.fault.RuleCause.{RuleCause}
use Rattle.nv_bpf_asm.specs.declared.fault.RuleCause.TheVariants as cause
use Rattle.nv_bpf_asm.specs.declared.fault.RuleFault.{RuleFault}
use Rattle.nv_bpf_asm.specs.declared.fault.RuleFault.TheVariants as fault
use Rattle.nv_bpf_asm.specs.Statements.{Statement, Plain, Always, Choice, statement}

abbrev pub is_not_comment : ℕ → Bool
is_not_comment b = not (b == 59)

-- a line without its comment, which `;` begins
unfoldable pub line_parts : List ℕ → Parts
line_parts line = line_of (prefix is_not_comment line)

-- how many instructions a line has; a faulty one counts too
abbrev pub word_count : List ℕ → ℕ
word_count [] = 0
word_count (b ∷ bs) = 1

abbrev pub count : List ℕ → ℕ
count line = word_count (line_parts line).word

-- ---- labels

-- each label, with the lines and the instructions before it
unfoldable pub labels : ℕ → ℕ → List (List ℕ) → List (List ℕ × Label)
labels n place [] = []
labels n place (line ∷ rest) = defining (line_parts line).label (record { line = n; place = place }) (labels (n + 1) (place + count line) rest)

-- what a label is first defined as
abbrev pub Find : Type 0
Find = List ℕ → Option Label

abbrev pub is_earlier : ℕ → Option Label → Bool
is_earlier n None = false
is_earlier n (Some label) = nat_lt label.line n

-- the label of line n is defined on an earlier one
abbrev pub is_twice : Find → ℕ → Option (List ℕ) → Bool
is_twice find n None = false
is_twice find n (Some name) = is_earlier n (find name)

-- ---- targets

-- how many instructions lie between a jump and its target, where that is after the jump; a way past 32 bits leaves every filter
abbrev pub way : ℕ → Label → Option ℕ
way place label = if nat_lt place label.place then Some (min (label.place - (place + 1)) (2 ^ 32 - 1)) else None

-- the same where it is at most 255
abbrev pub near_way : ℕ → Label → Option ℕ
near_way place label = if nat_lt place label.place && nat_le (label.place - (place + 1)) 255 then Some (label.place - (place + 1)) else None

abbrev pub jump_by : Option ℕ → Result Op RuleCause
jump_by None = Err cause.Far
jump_by (Some k) = Ok (record { code = 0x05; jt = 0; jf = 0; k = k })

abbrev pub jump_op : ℕ → Option Label → Result Op RuleCause
jump_op place None = Err cause.Label
jump_op place (Some target) = jump_by (way place target)

abbrev pub branch_by : ℕ → ℕ → Option ℕ → Option ℕ → Result Op RuleCause
branch_by code k (Some jt) (Some jf) = Ok (record { code = code; jt = jt; jf = jf; k = k })
branch_by code k _ _ = Err cause.Far

abbrev pub branch_op : ℕ → ℕ → ℕ → Option Label → Option Label → Result Op RuleCause
branch_op place code k (Some holds) (Some fails) = branch_by code k (near_way place holds) (near_way place fails)
branch_op place code k _ _ = Err cause.Label

-- the instruction of a statement at a place, or the cause that it is none
unfoldable pub op_of : Find → ℕ → Statement → Result Op RuleCause
op_of find place (Plain code k) = Ok (record { code = code; jt = 0; jf = 0; k = k })
op_of find place (Always target) = jump_op place (find target)
op_of find place (Choice code k holds fails) = branch_op place code k (find holds) (find fails)

abbrev pub op_after : Find → ℕ → Result Statement RuleCause → Result Op RuleCause
op_after find place (Ok s) = op_of find place s
op_after find place (Err c) = Err c

abbrev pub some_op : Result Op RuleCause → Result (Option Op) RuleCause
some_op (Ok op) = Ok (Some op)
some_op (Err c) = Err c

-- the instruction of a word and the rest after it, if there is a word
abbrev pub op_of_word : Find → ℕ → List ℕ → List ℕ → Result (Option Op) RuleCause
op_of_word find place [] rest = Ok None
op_of_word find place (b ∷ bs) rest = some_op (op_after find place (statement (b ∷ bs) rest))

-- the instruction of a line, or its first cause
abbrev pub op_of_parts : Find → ℕ → ℕ → Parts → Result (Option Op) RuleCause
op_of_parts find n place parts = if is_twice find n parts.label then Err cause.Twice else op_of_word find place parts.word parts.rest

unfoldable pub op_of_line : Find → ℕ → ℕ → List ℕ → Result (Option Op) RuleCause
op_of_line find n place line = op_of_parts find n place (line_parts line)

-- ---- the whole text

abbrev pub put_first : Op → Result (List Op) RuleFault → Result (List Op) RuleFault
put_first op (Ok ops) = Ok (op ∷ ops)
put_first op (Err f) = Err f

abbrev pub with_line : ℕ → Result (Option Op) RuleCause → Result (List Op) RuleFault → Result (List Op) RuleFault
with_line n (Err c) later = Err (fault.Line (line_number n) c)
with_line n (Ok None) later = later
with_line n (Ok (Some op)) later = put_first op later

-- the instructions of the lines after n lines and so many instructions, or the first fault
unfoldable pub ops_of : Find → ℕ → ℕ → List (List ℕ) → Result (List Op) RuleFault
ops_of find n place [] = Ok []
ops_of find n place (line ∷ rest) = with_line n (op_of_line find n place line) (ops_of find (n + 1) (place + count line) rest)

abbrev pub of_filter : Result (List Op) FilterFault → Result (List Op) RuleFault
of_filter (Ok ops) = Ok ops
of_filter (Err f) = Err (fault.Filter f)

abbrev pub filter_with : ℕ → Result (List Op) RuleFault → Result (List Op) RuleFault
filter_with most (Ok ops) = of_filter (verified most ops)
filter_with most (Err f) = Err f

-- the filter of a text, or its first fault
unfoldable pub assembled : ℕ → List ℕ → Result (List Op) RuleFault
assembled most text = filter_with most (ops_of (defined (labels 0 0 (lines text))) 0 0 (lines text))
