use Rattle.std.proofs.Common.{◌∙◌, arith}
use Rattle.nv_sockets.specs.Inboxes.{promised_in}
use Rattle.nv_sockets.proofs.Changed.{memory_changed, has_memory}
use Rattle.nv_sockets.proofs.sockets.Sockets.forget.Goals as goal

pub returns-clause-keeps : goal.returns-clause-keeps
returns-clause-keeps c = λ j m other.
    let at = c.in-Some.ensures.there in
    let changed = c.lay.ensures ∙ c.lift-one.ensures.rest (record c.lift-one.result { inbox = c.forget_in.new.inbox })
    ∙ memory_changed c.args.self.now c.args.i c.lift-one.result c.lift-one.ensures.is c.forget_in.new.inbox c.forget_in.ensures.inbox in
    has_memory c.args.self.now c.args.i at.link at.promise c.lay.new.self (promised_in c.forget_in.new.inbox) j m m changed (λ e _ _. absurd (other e)) (λ _. omega arith)
