use Rattle.std.proofs.Common.{◌∙◌, arith}
use Rattle.nv_sockets.specs.Inboxes.{promised_in, with_end}
use Rattle.nv_sockets.specs.Reserved.{Buffered}
use Rattle.nv_sockets.proofs.Changed.{inbox_changed, inbox_only, has_after}
use Rattle.nv_sockets.proofs.sockets.Sockets.end.Goals as goal

pub returns-clause-others : goal.returns-clause-others
returns-clause-others c =
    c.lay.ensures ∙ c.lift-one.ensures.rest (record c.lift-one.result { inbox = c.end_of.new.inbox })
    ∙ inbox_only c.args.self.now c.args.i c.lift-one.result c.lift-one.ensures.is c.end_of.new.inbox with_end c.end_of.ensures.inbox c.end_of.ensures.promised

pub returns-clause-keeps : goal.returns-clause-keeps
returns-clause-keeps c = λ j n.
    let w : Buffered = c.args.self.now in
    let at = c.in-Some.ensures.there in
    let changed = c.lay.ensures ∙ c.lift-one.ensures.rest (record c.lift-one.result { inbox = c.end_of.new.inbox })
    ∙ inbox_changed w c.args.i c.lift-one.result c.lift-one.ensures.is c.end_of.new.inbox with_end c.end_of.ensures.inbox in
    has_after w c.args.i at.link at.promise c.lay.new.self with_end (promised_in c.end_of.new.inbox) j n n changed
    (λ e g had. omega (arith, had, c.end_of.ensures.promised, c.lift-one.ensures.is.promise)) (omega arith)
