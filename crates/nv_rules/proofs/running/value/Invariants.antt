use Rattle.std.proofs.Common.{length}
use Rattle.nv_rules.specs.Values.{returned}
use Rattle.nv_rules.specs.inner.Machine.{state_of}
use Rattle.nv_rules.proofs.Steps.{Left}
use Rattle.nv_rules.proofs.running.value.Given as goal

abbrev pub invariant-loop-value : goal.invariant-loop-value
invariant-loop-value l = Left l.filter l.rest l.pair.words (state_of l.registers l.scratch) (returned l.filter l.pair.words)

abbrev pub decreases-loop-value : goal.decreases-loop-value
decreases-loop-value l = length l.rest
