use Rattle.nv_sockets.proofs.Laid.{keeps_more}
use Rattle.nv_sockets.proofs.sockets.Sockets.connect.Goals as goal

pub invariant_of-self : goal.invariant_of-self
invariant_of-self c = (keeps_more c.self.inside c.push.new.self c.add_waiting.new.waiting c.fresh.result c.self.invariant.0 c.push.ensures.items c.push.ensures.numbers c.fresh.ensures.gone, c.self.invariant.1)
