-- Which instructions are a filter: the first fault of a list of instructions, or the list.
use Rattle.std.specs.Prelude.{◌≡◌, ℕ, Bool, true, false, ◌&&◌, not, List, [], ◌∷◌, Option, Some, None, Result, Ok, Err, if◌then◌else◌, ◌==◌, nat_lt, nat_le, ◌+◌, ◌-◌, ◌%◌, length, slice_get, option_and_then}
use Rattle.nv_bpf.specs.declared.op.Op.{Op}
use Rattle.nv_bpf.specs.declared.op.FilterFault.{FilterFault}
use Rattle.nv_bpf.specs.declared.op.FilterFault.TheVariants as fault
use Rattle.nv_bpf.specs.declared.action.Operand.TheVariants.{Constant}
use Rattle.nv_bpf.specs.declared.action.Arithmetic.{Arithmetic}
use Rattle.nv_bpf.specs.declared.action.Arithmetic.TheVariants.{Divide, ShiftLeft, ShiftRight}
use Rattle.nv_bpf.specs.declared.action.Action.{Action}
use Rattle.nv_bpf.specs.declared.action.Action.TheVariants.{LoadWord, LoadScratch, Store, Compute, Jump, Branch, ReturnConstant, ReturnAccumulator}
use Rattle.nv_bpf.specs.Actions.{action_of}

-- the fault where a test fails
abbrev pub unless : Bool → FilterFault → Option FilterFault
unless true f = None
unless false f = Some f

-- the fault of arithmetic with a constant
abbrev pub constant_fault : Arithmetic → ℕ → ℕ → Option FilterFault
constant_fault Divide i k = unless (nat_lt 0 k) (fault.Zero i)
constant_fault ShiftLeft i k = unless (nat_le k 31) (fault.Shift i)
constant_fault ShiftRight i k = unless (nat_le k 31) (fault.Shift i)
constant_fault _ i k = None

-- where a word that a filter reads begins: the pair has 132 bytes, and from 136 on two words more stand beside it
abbrev pub is_word : ℕ → Bool
is_word k = (k % 4 == 0) && (nat_le k 140 && not (k == 132))

-- the fault of instruction i of n, by what it does; the scratch memory has sixteen words
abbrev pub action_fault : Action → ℕ → ℕ → Op → Option FilterFault
action_fault Jump n i op = unless (nat_lt (i + 1 + op.k) n) (fault.Jump i)
action_fault (Branch c s) n i op = unless (nat_lt (i + 1 + op.jt) n && nat_lt (i + 1 + op.jf) n) (fault.Jump i)
action_fault (LoadScratch r) n i op = unless (nat_le op.k 15) (fault.Scratch i)
action_fault (Store r) n i op = unless (nat_le op.k 15) (fault.Scratch i)
action_fault LoadWord n i op = unless (is_word op.k) (fault.Offset i)
action_fault (Compute a Constant) n i op = constant_fault a i op.k
action_fault _ n i op = None

abbrev pub fault_by : Option Action → ℕ → ℕ → Op → Option FilterFault
fault_by None n i op = Some (fault.Code i)
fault_by (Some a) n i op = action_fault a n i op

-- the fault of instruction i of n
unfoldable pub op_fault : ℕ → ℕ → Op → Option FilterFault
op_fault n i op = fault_by (action_of op.code) n i op

abbrev pub is_return : Option Action → Bool
is_return (Some ReturnConstant) = true
is_return (Some ReturnAccumulator) = true
is_return _ = false

abbrev pub or_later_fault : Option FilterFault → Option FilterFault → Option FilterFault
or_later_fault (Some f) later = Some f
or_later_fault None later = later

-- the first fault of the instructions from i on, of n in all
unfoldable pub ops_fault : ℕ → ℕ → List Op → Option FilterFault
ops_fault n i [] = None
ops_fault n i (op ∷ ops) = or_later_fault (op_fault n i op) (ops_fault n (i + 1) ops)

abbrev pub ends_in_return : List Op → Bool
ends_in_return ops = is_return (option_and_then (λ op. action_of op.code) (slice_get ops (length ops - 1)))

-- the first fault of a list that may have so many instructions
unfoldable pub list_fault : ℕ → List Op → Option FilterFault
list_fault most ops = if length ops == 0 then Some fault.Empty else (if nat_lt most (length ops) then Some fault.TooLong
    else or_later_fault (ops_fault (length ops) 0 ops) (unless (ends_in_return ops) fault.NoReturn))

abbrev pub ops_or : Option FilterFault → List Op → Result (List Op) FilterFault
ops_or None ops = Ok ops
ops_or (Some f) ops = Err f

-- the filter of these instructions, or their first fault
abbrev pub verified : ℕ → List Op → Result (List Op) FilterFault
verified most ops = ops_or (list_fault most ops) ops

abbrev pub IsFilter : ℕ → List Op → Type 0
IsFilter most ops = list_fault most ops ≡ None
