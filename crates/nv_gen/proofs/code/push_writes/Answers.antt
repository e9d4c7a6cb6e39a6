use Rattle.std.proofs.Common.{arith}
use Rattle.nv_gen.proofs.Appending.{calls_code-none, calls_code-next}
use Rattle.nv_gen.proofs.code.push_writes.Goals as goal

pub loop-made-init : goal.loop-made-init
loop-made-init c = record { code = calls_code-none _ _ _; least = omega arith; most = omega arith }

pub loop-made-preserved : goal.loop-made-preserved
loop-made-preserved c = record {
  code = calls_code-next _ _ _ _ _ _ c.loop-made.invariant.code c.in_ok-push_turn.ensures.code;
  least = omega (arith, c.in_ok-push_turn.ensures.least);
  most = omega (arith, c.in_ok-push_turn.ensures.most);
}
