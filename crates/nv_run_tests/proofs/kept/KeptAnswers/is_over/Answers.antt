use Rattle.nv_run_tests.proofs.kept.KeptAnswers.is_over.Goals as goal

pub returns : goal.returns
returns g c = λ setup log s. c.is_over.ensures setup log s.here
