use Rattle.std.proofs.Common.{subst}
use Rattle.nv_threads.specs.Ahead.{HasGone}
use Rattle.nv_threads.specs.declared.turns.Ahead.{Ahead}
use Rattle.nv_threads.proofs.Aheads.{further, further_comes}
use Rattle.nv_threads.proofs.eager.Eager.step_ahead.Goals as goal

pub invariant_of-self-in-Goes : goal.invariant_of-self-in-Goes
invariant_of-self-in-Goes c = record {
  gone = further c.self.inside.ahead c.self.inside.known.value c.self.inside.process c.run_ahead.new.self c.self.invariant.gone c.in_default.not-Comes
      (subst (λ (a : Ahead). HasGone c.self.inside.process a c.run_ahead.new.self) c.in-Goes.is c.run_ahead.ensures);
  stays = λ h. cc;
}

pub invariant_of-self-in-Comes-run_ahead : goal.invariant_of-self-in-Comes-run_ahead
invariant_of-self-in-Comes-run_ahead c = record {
  gone = further_comes c.self.inside.ahead c.self.inside.known.value c.self.inside.process c.run_ahead.new.self c.in-Comes-run_ahead.came c.self.invariant.gone c.in_default.not-Comes
      (subst (λ (a : Ahead). HasGone c.self.inside.process a c.run_ahead.new.self) c.in-Comes-run_ahead.is c.run_ahead.ensures);
  stays = λ h. cc;
}
