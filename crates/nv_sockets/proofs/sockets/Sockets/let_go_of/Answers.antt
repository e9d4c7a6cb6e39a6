use Rattle.std.proofs.Common.{◌∙◌, ap}
use Rattle.nv_sockets.specs.Reserved.{Buffered}
use Rattle.nv_sockets.proofs.Changed.{gone_is, promises_kept}
use Rattle.nv_sockets.proofs.sockets.Sockets.let_go_of.Goals as goal

pub returns-clause-gone : goal.returns-clause-gone
returns-clause-gone c =
    ap (λ (z : Buffered). z.held.gone) (c.lay.ensures ∙ c.lift-one.ensures.rest (record c.lift-one.result { output = c.let_go.new.self }))
    ∙ gone_is c.args.self.now c.args.i c.lift-one.result c.lift-one.ensures.is c.let_go.new.self c.let_go.ensures.gone

pub returns-clause-promised : goal.returns-clause-promised
returns-clause-promised c =
    ap (λ (z : Buffered). z.promised) (c.lay.ensures ∙ c.lift-one.ensures.rest (record c.lift-one.result { output = c.let_go.new.self }))
    ∙ promises_kept c.args.self.now c.args.i c.lift-one.result c.lift-one.ensures.is c.let_go.new.self
