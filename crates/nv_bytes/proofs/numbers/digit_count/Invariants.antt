use Rattle.std.proofs.Common.{◌≡◌, ◌+◌, length}
use Rattle.nv_bytes.specs.Numbers.{decimal_of}
use Rattle.nv_bytes.proofs.numbers.digit_count.Given as goal

-- the digits passed and those of the rest are all
abbrev pub invariant-loop-rest : goal.invariant-loop-rest
invariant-loop-rest l = l.count + length (decimal_of l.rest) ≡ 1 + length (decimal_of l.value)

abbrev pub decreases-loop-rest : goal.decreases-loop-rest
decreases-loop-rest l = l.rest
