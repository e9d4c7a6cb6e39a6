use Rattle.nv_laws.proofs.Falling.{falls, few}
use Rattle.nv_laws.proofs.progress.no_seat_gets_on_for_ever.Goals as goal

pub returns-clause-few : goal.returns-clause-few
returns-clause-few g c = few

pub returns-clause-falls : goal.returns-clause-falls
returns-clause-falls g c = falls
