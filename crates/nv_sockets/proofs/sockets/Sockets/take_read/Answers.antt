use Rattle.std.proofs.Common.{◌∙◌}
use Rattle.nv_sockets.specs.Inboxes.{with_less}
use Rattle.nv_sockets.proofs.Changed.{inbox_only}
use Rattle.nv_sockets.proofs.sockets.Sockets.take_read.Goals as goal

pub returns : goal.returns
returns c =
    c.lay.ensures ∙ c.lift-one.ensures.rest (record c.lift-one.result { inbox = c.take_from.new.inbox })
    ∙ inbox_only c.args.self.now c.args.i c.lift-one.result c.lift-one.ensures.is c.take_from.new.inbox (with_less c.args.n) c.take_from.ensures.inbox c.take_from.ensures.promised
