use Rattle.std.proofs.Common.{◌≡◌, ◌++◌, option_map, length}
use Rattle.nv_bytes.specs.Numbers.{unhexed}
use Rattle.nv_bytes.proofs.numbers.unhex.Given as goal

-- the bytes so far and those of the rest are all
abbrev pub invariant-loop-rest : goal.invariant-loop-rest
invariant-loop-rest l = option_map (λ more. l.bytes.items ++ more) (unhexed l.rest) ≡ unhexed l.text

abbrev pub decreases-loop-rest : goal.decreases-loop-rest
decreases-loop-rest l = length l.rest
