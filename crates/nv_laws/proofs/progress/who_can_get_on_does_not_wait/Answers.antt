use Rattle.nv_laws.proofs.Windows.{need_not}
use Rattle.nv_laws.proofs.progress.who_can_get_on_does_not_wait.Goals as goal

pub returns : goal.returns
returns g c = λ p s r j v at can. need_not _ _ p s r j v at can
