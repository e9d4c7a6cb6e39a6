use Rattle.nv_laws.proofs.Stuck.{not_stuck}
use Rattle.nv_laws.proofs.progress.no_room_is_stuck.Goals as goal

pub returns : goal.returns
returns g c = λ p s r all some. not_stuck _ _ p s r all some
