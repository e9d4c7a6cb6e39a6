use Rattle.nv_laws.proofs.Played.{does_gives}
use Rattle.nv_laws.proofs.progress.each_step_is_counted.Goals as goal

pub returns : goal.returns
returns g c = λ p s next id kind r d. does_gives _ _ p s r next id kind d
