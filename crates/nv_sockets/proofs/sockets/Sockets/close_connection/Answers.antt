use Rattle.std.proofs.Common.{◌∙◌, ap, None}
use Rattle.nv_sockets.specs.Reserved.{Buffered}
use Rattle.nv_sockets.proofs.Changed.{net_closed, held_closed}
use Rattle.nv_sockets.proofs.sockets.Sockets.close_connection.Goals as goal

pub returns-clause-net : goal.returns-clause-net
returns-clause-net c =
    ap (λ (z : Buffered). z.net) (c.lay.ensures ∙ c.lift-one.ensures.rest (record c.lift-one.result { inbox = None }))
    ∙ net_closed c.args.self.now c.args.i c.lift-one.result c.lift-one.ensures.is

pub returns-clause-held : goal.returns-clause-held
returns-clause-held c =
    ap (λ (z : Buffered). z.held) (c.lay.ensures ∙ c.lift-one.ensures.rest (record c.lift-one.result { inbox = None }))
    ∙ held_closed c.args.self.now c.args.i c.lift-one.result c.lift-one.ensures.is
