use Rattle.std.proofs.Common.{◌≡◌, ◌∙◌, sym, ap, subst, List, [], ◌∷◌, ◌++◌}
use Rattle.nv_calls.specs.Calls.{Entry, request}
use Rattle.nv_calls.specs.Logs.{Start, served}
use Rattle.nv_room.specs.Seats.{kernel_of}
use Rattle.nv_room.proofs.Askings.{asked_on}
use Rattle.nv_room_tests.proofs.running.publish_one.Goals as goal

pub returns-in-Ready-clause-log : goal.returns-in-Ready-clause-log
returns-in-Ready-clause-log g c =
    let log : List Entry = g.K.SyscallKernel.log (kernel_of c.place.new.lead) in
    let same : log ≡ g.K.SyscallKernel.log (kernel_of c.args.lead.now) = ap g.K.SyscallKernel.log c.in-Ready.ensures.kernel ∙ c.loop-turn.invariant.log in
    c.publish.ensures.log ∙ ap (λ (s : Start). log ++ served s log (request c.args.call.now) ∷ []) (sym c.publish.ensures.known)
    ∙ ap (λ (l : List Entry). l ++ served (g.K.SyscallKernel.known (kernel_of c.publish.new.lead)) l (request c.args.call.now) ∷ []) same

-- nothing was asked for in any turn
pub returns-in-Ready-clause-asked : goal.returns-in-Ready-clause-asked
returns-in-Ready-clause-asked g c =
    let i = c.loop-turn.invariant in
    let p = c.in-Ready.ensures in
    let u = c.publish.ensures in
    asked_on c.args.room.now c.place.new.lead c.publish.new.lead u.same u.start u.handed
    (asked_on c.args.room.now c.loop-turn.lead c.place.new.lead p.same (ap g.K.SyscallKernel.start p.kernel) (λ lengths h. subst (λ k. g.K.SyscallKernel.handed k lengths) (sym p.kernel) h)
    (asked_on c.args.room.now c.args.lead.now c.loop-turn.lead i.same i.start i.handed c.requires.asked))

pub returns-clause-asked : goal.returns-clause-asked
returns-clause-asked g c =
    let i = c.loop-turn.invariant in
    asked_on c.args.room.now c.args.lead.now c.loop-turn.lead i.same i.start i.handed c.requires.asked
