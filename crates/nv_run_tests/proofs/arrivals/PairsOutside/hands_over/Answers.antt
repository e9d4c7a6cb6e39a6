use Rattle.nv_run_tests.proofs.Texts.{wrote_none}
use Rattle.nv_run_tests.proofs.arrivals.PairsOutside.hands_over.Goals as goal

pub returns : goal.returns
returns c = record { told = λ first done h. wrote_none first.done c.args.self.now.done done h; stays = λ _. tt }
