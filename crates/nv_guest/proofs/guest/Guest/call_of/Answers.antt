use Rattle.std.proofs.Common.{◌≡◌, ◌∙◌, ap}
use Rattle.nv_calls.specs.Numbers.{is_local}
use Rattle.nv_guest.specs.Calls.{call_number, call_at}
use Rattle.nv_guest.specs.Guest.{machine_with}
use Rattle.nv_guest.specs.Threads.{machine_at, asked_as}
use Rattle.nv_guest.proofs.guest.Guest.call_of.Goals as goal

module _ (c : goal.After-ask) where
  same : machine_with c.regs.result.now c.self.inside.memory ≡ machine_at c.args.self.now c.args.tid
  same = λ i. machine_with (c.regs.ensures i) (c.self.view_is i).memory

pub returns-clause-asked : goal.returns-clause-asked
returns-clause-asked c = c.ask.ensures.asked ∙ ap (λ m. asked_as (is_local (call_number m))) (same c)

pub returns-clause-call : goal.returns-clause-call
returns-clause-call c = c.ask.ensures.call ∙ ap (λ m. call_at m c.args.tid) (same c)
