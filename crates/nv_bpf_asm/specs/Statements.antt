-- What the instruction of a line of a rule text says.
use Rattle.std.specs.Prelude.{ℕ, ◌&&◌, List, [], ◌∷◌, Option, Some, None, Result, Err, if◌then◌else◌, ◌==◌, nat_eq, nat_le, ◌+◌, ◌-◌, length, take, drop, slice_index, bytes_eq, codes, option_map, option_and_then}
use Rattle.std.specs.Option.{option_or, ok_or}
use Rattle.std.specs.List.{starts_with}
use Rattle.nv_bytes.specs.Numbers.{number_of}
use Rattle.nv_bytes.specs.Lines.{is_name, operands}
use Rattle.nv_bytes.specs.Names.{defined}
use Rattle.nv_bpf_asm.specs.declared.forms.Form.{Form}
use Rattle.nv_bpf_asm.specs.declared.forms.Form.TheVariants.{Alone, Sum, Branch, Scratch, Return, Jump, Load, LoadIndex}
use Rattle.nv_bpf_asm.specs.declared.fault.RuleCause.{RuleCause}
use Rattle.nv_bpf_asm.specs.declared.fault.RuleCause.TheVariants.{Word, Operand}

pub data Statement : Type 0 where
  -- a code and its k
  Plain : ℕ → ℕ → Statement
  -- a jump to a label
  Always : List ℕ → Statement
  -- a comparison's code and k, and the labels to go to where it holds and where it doesn't
  Choice : ℕ → ℕ → List ℕ → List ℕ → Statement

-- the words that begin an instruction
unfoldable pub forms : List (List ℕ × Form)
forms =
    (codes "ld", Load) ∷ (codes "ldx", LoadIndex) ∷ (codes "st", Scratch 0x02) ∷ (codes "stx", Scratch 0x03) ∷
    (codes "add", Sum 0x04 0x0c) ∷ (codes "sub", Sum 0x14 0x1c) ∷ (codes "mul", Sum 0x24 0x2c) ∷ (codes "div", Sum 0x34 0x3c) ∷
    (codes "or", Sum 0x44 0x4c) ∷ (codes "and", Sum 0x54 0x5c) ∷ (codes "lsh", Sum 0x64 0x6c) ∷ (codes "rsh", Sum 0x74 0x7c) ∷
    (codes "neg", Alone 0x84) ∷ (codes "tax", Alone 0x07) ∷ (codes "txa", Alone 0x87) ∷
    (codes "ja", Jump) ∷ (codes "jeq", Branch 0x15 0x1d) ∷ (codes "jgt", Branch 0x25 0x2d) ∷ (codes "jge", Branch 0x35 0x3d) ∷ (codes "jset", Branch 0x45 0x4d) ∷
    (codes "ret", Return) ∷ []

-- the rest of a text after a prefix
abbrev pub after_prefix : List ℕ → List ℕ → Option (List ℕ)
after_prefix prefix text = if starts_with nat_eq text prefix then Some (drop (length prefix) text) else None

-- what stands before a closing bracket
abbrev pub closed : List ℕ → Option (List ℕ)
closed text = if slice_index text (length text - 1) == 93 then Some (take (length text - 1) text) else None

-- the k of `#k`
unfoldable pub constant : List ℕ → Option ℕ
constant text = option_and_then number_of (after_prefix (codes "#") text)

-- the k between a prefix and a closing bracket
unfoldable pub between : List ℕ → List ℕ → Option ℕ
between prefix text = option_and_then number_of (option_and_then closed (after_prefix prefix text))

-- the offset of a word of the event's call, which begins 64 bytes after that of the follower's
abbrev pub of_event : ℕ → Option ℕ
of_event k = if nat_le k 4294967231 then Some (k + 64) else None

abbrev pub plain : ℕ → Option ℕ → Option Statement
plain code k = option_map (λ n. Plain code n) k

-- with `#k` or `x`
unfoldable pub sum_of : ℕ → ℕ → List ℕ → Option Statement
sum_of by_constant by_index text = if bytes_eq text (codes "x") then Some (Plain by_index 0) else plain by_constant (constant text)

-- `a`, the value by which a call takes the event's answer, or a constant
unfoldable pub return_of : List ℕ → Option Statement
return_of text = if bytes_eq text (codes "a") then Some (Plain 0x16 0) else (
    if bytes_eq text (codes "#take") then Some (Plain 0x06 0x00070000) else plain 0x06 (constant text))

unfoldable pub load_of : List ℕ → Option Statement
load_of text = if bytes_eq text (codes "len") then Some (Plain 0x80 0) else (
    if bytes_eq text (codes "version") then Some (Plain 0x20 128) else (
    if bytes_eq text (codes "bytes") then Some (Plain 0x20 136) else (
    if bytes_eq text (codes "event.bytes") then Some (Plain 0x20 140) else
    option_or (plain 0x00 (constant text)) (option_or (plain 0x60 (between (codes "M[") text))
    (option_or (plain 0x20 (between (codes "[") text)) (plain 0x20 (option_and_then of_event (between (codes "event[") text))))))))

unfoldable pub load_index_of : List ℕ → Option Statement
load_index_of text = if bytes_eq text (codes "len") then Some (Plain 0x81 0) else option_or (plain 0x01 (constant text)) (plain 0x61 (between (codes "M[") text))

unfoldable pub jump_of : List ℕ → Option Statement
jump_of target = if is_name target then Some (Always target) else None

abbrev pub choice_of : ℕ → ℕ → List ℕ → List ℕ → List ℕ → Option Statement
choice_of by_constant by_index value holds fails = if bytes_eq value (codes "x") then Some (Choice by_index 0 holds fails) else option_map (λ k. Choice by_constant k holds fails) (constant value)

unfoldable pub branch_of : ℕ → ℕ → List ℕ → List ℕ → List ℕ → Option Statement
branch_of by_constant by_index value holds fails = if is_name holds && is_name fails then choice_of by_constant by_index value holds fails else None

-- the statement of these operands, where they are of the form
abbrev pub formed : Form → List (List ℕ) → Option Statement
formed (Alone code) [] = Some (Plain code 0)
formed (Sum by_constant by_index) (operand ∷ []) = sum_of by_constant by_index operand
formed (Branch by_constant by_index) (value ∷ holds ∷ fails ∷ []) = branch_of by_constant by_index value holds fails
formed (Scratch code) (operand ∷ []) = plain code (between (codes "M[") operand)
formed Return (operand ∷ []) = return_of operand
formed Jump (operand ∷ []) = jump_of operand
formed Load (operand ∷ []) = load_of operand
formed LoadIndex (operand ∷ []) = load_index_of operand
formed _ _ = None

abbrev pub stated : Option Form → List ℕ → Result Statement RuleCause
stated None rest = Err Word
stated (Some form) rest = ok_or (formed form (operands rest)) Operand

-- the statement of a word and the rest after it
unfoldable pub statement : List ℕ → List ℕ → Result Statement RuleCause
statement word rest = stated (defined forms word) rest
