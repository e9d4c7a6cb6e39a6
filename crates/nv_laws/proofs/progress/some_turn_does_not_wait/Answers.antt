use Rattle.nv_laws.proofs.Windows.{some_need_not}
use Rattle.nv_laws.proofs.progress.some_turn_does_not_wait.Goals as goal

pub returns : goal.returns
returns g c = λ p s r all stays. some_need_not _ _ p s r all stays
