use Rattle.std.proofs.Common.{◌∙◌, ap}
use Rattle.nv_sockets.specs.Reserved.{Buffered}
use Rattle.nv_sockets.proofs.Changed.{net_written, held_kept}
use Rattle.nv_sockets.proofs.sockets.Sockets.append_to.Goals as goal

pub returns-clause-net : goal.returns-clause-net
returns-clause-net c =
    let w : Buffered = c.args.self.now in
    ap (λ (z : Buffered). z.net) (c.lay.ensures ∙ c.lift-one.ensures.rest (record c.lift-one.result { output = c.append.new.self }))
    ∙ net_written w c.args.i c.lift-one.result c.lift-one.ensures.is c.append.new.self c.args.bytes.now c.append.ensures.items

pub returns-clause-held : goal.returns-clause-held
returns-clause-held c =
    let w : Buffered = c.args.self.now in
    ap (λ (z : Buffered). z.held) (c.lay.ensures ∙ c.lift-one.ensures.rest (record c.lift-one.result { output = c.append.new.self }))
    ∙ held_kept w c.args.i c.lift-one.result c.lift-one.ensures.is c.append.new.self c.append.ensures.gone
