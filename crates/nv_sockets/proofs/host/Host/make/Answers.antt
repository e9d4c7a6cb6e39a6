use Rattle.nv_sockets.proofs.host.Host.make.Goals as goal

pub returns-clause-state : goal.returns-clause-state
returns-clause-state c = λ i. record { own = c.in_ok-devices.ensures.state i; net = c.in_ok-sockets.ensures.net i }
