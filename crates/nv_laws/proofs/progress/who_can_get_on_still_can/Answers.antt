use Rattle.nv_laws.proofs.Lasting.{lasts}
use Rattle.nv_laws.proofs.progress.who_can_get_on_still_can.Goals as goal

pub returns : goal.returns
returns g c = λ p s next r after id kind d j v ne at can. lasts _ _ p s next r after id kind d j v ne at can
