-- The value of a filter on a pair: classic BPF's machine (McCanne and Jacobson 1993, section 3).
use Rattle.std.specs.Prelude.{ℕ, zero, suc, Bool, not, List, [], ◌∷◌, Option, Some, None, if◌then◌else◌, ◌==◌, nat_lt, nat_le, ◌+◌, ◌-◌, ◌*◌, ◌/◌, ◌%◌, ◌^◌, bit_and, bit_or, slice_index, slice_set, replicate, unwrap_or, option_map}
use Rattle.nv_bpf.specs.declared.op.Op.{Op}
use Rattle.nv_bpf.specs.declared.action.Register.{Register}
use Rattle.nv_bpf.specs.declared.action.Register.TheVariants.{Accumulator, Index}
use Rattle.nv_bpf.specs.declared.action.Operand.{Operand}
use Rattle.nv_bpf.specs.declared.action.Operand.TheVariants as operand
use Rattle.nv_bpf.specs.declared.action.Arithmetic.{Arithmetic}
use Rattle.nv_bpf.specs.declared.action.Arithmetic.TheVariants.{Add, Subtract, Multiply, Divide, Or, And, ShiftLeft, ShiftRight}
use Rattle.nv_bpf.specs.declared.action.Comparison.{Comparison}
use Rattle.nv_bpf.specs.declared.action.Comparison.TheVariants.{Equal, Greater, AtLeast, CommonBit}
use Rattle.nv_bpf.specs.declared.action.Action.{Action}
use Rattle.nv_bpf.specs.declared.action.Action.TheVariants.{LoadWord, Load, LoadScratch, LoadLength, Store, Compute, Negate, Jump, Branch, ReturnConstant, ReturnAccumulator, Copy}
use Rattle.nv_bpf.specs.Actions.{action_of}

-- the registers A and X, and the sixteen words M
pub record FilterState : Type 0 where
  pub accumulator : ℕ
  pub index : ℕ
  pub scratch : List ℕ

unfoldable pub filter_start : FilterState
filter_start = record { accumulator = 0; index = 0; scratch = replicate 16 0 }

abbrev pub held : Register → FilterState → ℕ
held Accumulator s = s.accumulator
held Index s = s.index

abbrev pub with_register : Register → ℕ → FilterState → FilterState
with_register Accumulator n s = record s { accumulator = n }
with_register Index n s = record s { index = n }

abbrev pub other : Register → Register
other Accumulator = Index
other Index = Accumulator

abbrev pub operand_of : Operand → ℕ → FilterState → ℕ
operand_of operand.Constant k s = k
operand_of operand.Index k s = s.index

-- Arithmetic on words of 32 bits, without signs. A shift uses the low five bits of what it shifts by. A division by 0 has no result.
abbrev pub calculated : Arithmetic → ℕ → ℕ → Option ℕ
calculated Add a b = Some ((a + b) % 2 ^ 32)
calculated Subtract a b = Some ((a + (2 ^ 32 - b)) % 2 ^ 32)
calculated Multiply a b = Some (a * b % 2 ^ 32)
calculated Divide a b = if b == 0 then None else Some (a / b)
calculated Or a b = Some (bit_or a b)
calculated And a b = Some (bit_and a b)
calculated ShiftLeft a b = Some (a * 2 ^ (b % 32) % 2 ^ 32)
calculated ShiftRight a b = Some (a / 2 ^ (b % 32))

abbrev pub comparison_holds : Comparison → ℕ → ℕ → Bool
comparison_holds Equal a b = a == b
comparison_holds Greater a b = nat_lt b a
comparison_holds AtLeast a b = nat_le b a
comparison_holds CommonBit a b = not (bit_and a b == 0)

-- An instruction ends the filter with a value, or it goes past so many of those that follow it.
pub data Effect : Type 0 where
  Ends : ℕ → Effect
  Goes : ℕ → FilterState → Effect

abbrev pub goes_with : Register → ℕ → FilterState → Effect
goes_with r n s = Goes 0 (with_register r n s)

-- a filter whose arithmetic has no result ends with 0
abbrev pub ends_without : Option ℕ → FilterState → Effect
ends_without None s = Ends 0
ends_without (Some n) s = goes_with Accumulator n s

-- the length is that of the calls and the version's number, without the words after them
abbrev pub acted : Action → Op → List ℕ → FilterState → Effect
acted LoadWord op pair s = goes_with Accumulator (slice_index pair (op.k / 4)) s
acted (Load r) op pair s = goes_with r op.k s
acted (LoadScratch r) op pair s = goes_with r (slice_index s.scratch op.k) s
acted (LoadLength r) op pair s = goes_with r 132 s
acted (Store r) op pair s = Goes 0 (record s { scratch = slice_set s.scratch op.k (held r s) })
acted (Compute a o) op pair s = ends_without (calculated a s.accumulator (operand_of o op.k s)) s
acted Negate op pair s = goes_with Accumulator ((2 ^ 32 - s.accumulator) % 2 ^ 32) s
acted Jump op pair s = Goes op.k s
acted (Branch c o) op pair s = Goes (if comparison_holds c s.accumulator (operand_of o op.k s) then op.jt else op.jf) s
acted ReturnConstant op pair s = Ends op.k
acted ReturnAccumulator op pair s = Ends s.accumulator
acted (Copy r) op pair s = goes_with r (held (other r) s) s

-- how the filter goes on, by what is run past so many instructions
abbrev pub gone_on : Option Effect → (ℕ → FilterState → Option ℕ) → Option ℕ
gone_on None later = None
gone_on (Some (Ends value)) later = Some value
gone_on (Some (Goes n s)) later = later n s

abbrev pub stepped : Op → List ℕ → FilterState → Option Effect
stepped op pair s = option_map (λ a. acted a op pair s) (action_of op.code)

-- what a list of instructions returns, from the one past so many; it never runs off the end of a filter
unfoldable pub returned_from : List ℕ → ℕ → FilterState → List Op → Option ℕ
returned_from pair n s [] = None
returned_from pair (suc n) s (op ∷ ops) = returned_from pair n s ops
returned_from pair zero s (op ∷ ops) = gone_on (stepped op pair s) (λ n t. returned_from pair n t ops)

unfoldable pub returned : List Op → List ℕ → Option ℕ
returned ops pair = returned_from pair 0 filter_start ops

-- the value of a filter on a pair
abbrev pub value_of : List Op → List ℕ → ℕ
value_of ops pair = unwrap_or (returned ops pair) 0
