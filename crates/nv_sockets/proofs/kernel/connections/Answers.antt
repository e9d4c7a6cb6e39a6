use Rattle.std.proofs.Common.{◌∙◌, ap}
use Rattle.nv_sockets.specs.Serving.{State}
use Rattle.nv_sockets.specs.declared.host.Host.{Host}
use Rattle.nv_sockets.proofs.kernel.connections.Goals as goal

pub returns-clause-links : goal.returns-clause-links
returns-clause-links c = c.connections.ensures.links ∙ ap (λ (h : Host). h.sockets.net.links) c.answers.ensures.is ∙ ap (λ (s : State). s.net.links) c.answers.ensures.stands.stands.state
