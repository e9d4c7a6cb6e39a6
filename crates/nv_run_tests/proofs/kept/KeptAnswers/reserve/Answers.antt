use Rattle.std.proofs.Common.{◌∙◌}
use Rattle.nv_run_tests.proofs.kept.KeptAnswers.reserve.Goals as goal

pub returns-clause-stands : goal.returns-clause-stands
returns-clause-stands g c = λ setup log s. record {
  here = c.reserve.ensures.stands setup log s.here;
  keeps = c.reserve.ensures.kept.still ∙ s.keeps;
  kept = c.reserve.ensures.kept.all s.keeps s.kept;
}

pub returns-clause-known : goal.returns-clause-known
returns-clause-known g c = λ setup log s. c.reserve.ensures.known setup log s.here
