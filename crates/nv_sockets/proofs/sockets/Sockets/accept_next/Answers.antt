use Rattle.std.proofs.Common.{rules, ◌≡◌, ◌∙◌, sym, ap, subst, ◌<◌, length, to_z, of_z, w32}
use Rattle.nv_calls.specs.Answer.{Answer}
use Rattle.nv_sockets.specs.Sockets.{Net}
use Rattle.nv_sockets.specs.Did.{accepted_by}
use Rattle.nv_sockets.proofs.Outputs.{accepted_here}
use Rattle.nv_sockets.proofs.sockets.Sockets.accept_next.Goals as goal

pub returns-clause-did : goal.returns-clause-did
returns-clause-did c =
    let back : to_z w32 (of_z w32 c.install.result) ≡ c.install.result = search rules in
    let place : c.in-Some.place < length c.leave_queue.new.self.net.sockets = subst (λ (net : Net). c.in-Some.place < length net.sockets)
    (sym c.leave_queue.ensures.net) c.in-Some.ensures.inside in
    sym (accepted_here c.leave_queue.new.self.net c.in-Some.place c.in-Some-next_at.i place)
    ∙ (ap (λ (a : Answer Net). accepted_by a.state a.ret) c.install.ensures.answer ∙ ap (accepted_by c.install.new.self.net) (sym back))
