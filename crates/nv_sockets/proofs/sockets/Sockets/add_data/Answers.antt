use Rattle.std.proofs.Common.{◌≡◌, ◌∙◌, ◌+◌, true, arith}
use Rattle.std.specs.Prelude.{slice_set, is_some}
use Rattle.nv_sockets.specs.Inboxes.{promised_in, with_more}
use Rattle.nv_sockets.specs.Reserved.{Buffered}
use Rattle.nv_sockets.specs.Coming.{came_over, with_data}
use Rattle.nv_sockets.proofs.Changed.{inbox_changed, own_promised, going_is, has_after, nothing_over}
use Rattle.nv_sockets.proofs.sockets.Sockets.add_data.Goals as goal

module _ (c : goal.After-lay) where
  changed : c.lay.new.self ≡ record c.args.self.now { net = with_data c.args.self.now.net c.args.i c.args.bytes.now; promised = slice_set c.args.self.now.promised c.args.i (promised_in c.add_to.new.inbox) }
  changed = c.lay.ensures ∙ c.lift-one.ensures.rest (record c.lift-one.result { inbox = c.add_to.new.inbox })
      ∙ inbox_changed c.args.self.now c.args.i c.lift-one.result c.lift-one.ensures.is c.add_to.new.inbox (with_more c.args.bytes.now) c.add_to.ensures.inbox

pub returns-clause-others : goal.returns-clause-others
returns-clause-others c = own_promised c.lay.new.self c.args.self.now (with_data c.args.self.now.net c.args.i c.args.bytes.now) _ (changed c)

pub returns-clause-keeps : goal.returns-clause-keeps
returns-clause-keeps c = λ j n.
    let w : Buffered = c.args.self.now in
    let at = c.in-Some.ensures.there in
    has_after w c.args.i at.link at.promise c.lay.new.self (with_more c.args.bytes.now) (promised_in c.add_to.new.inbox) j n (came_over c.args.i c.args.bytes.now j + n) (changed c)
    (λ e g had.
    let going : is_some c.lift-one.result.inbox ≡ true = going_is w c.args.i c.lift-one.result c.lift-one.ensures.is ∙ g in
    omega (arith, had, nothing_over c.args.i c.args.bytes.now j e, c.add_to.ensures.promised going, c.lift-one.ensures.is.promise))
    (omega arith)
