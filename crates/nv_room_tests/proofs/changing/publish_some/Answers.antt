use Rattle.std.proofs.Common.{sym, subst, ◌∙◌, ◌≡◌, List, [], ◌∷◌, ◌++◌}
use Rattle.std.specs.Prelude.{Contains}
use Rattle.nv_calls.specs.Calls.{Entry, request}
use Rattle.nv_calls.specs.Logs.{served, live_after}
use Rattle.nv_room.specs.Seats.{kernel_of}
use Rattle.nv_room_tests.proofs.Living.{lives_on}
use Rattle.nv_room_tests.proofs.changing.publish_some.Goals as goal

pub loop-event-preserved : goal.loop-event-preserved
loop-event-preserved g c =
    let i = c.loop-event.invariant in
    let p = c.publish_one.ensures in
    let log : List Entry = g.K.SyscallKernel.log (kernel_of c.loop-event.lead) in
    let e : Entry = served (g.K.SyscallKernel.known (kernel_of c.publish_one.new.lead)) log (request c.args.call.now) in
    let more : g.K.SyscallKernel.log (kernel_of c.publish_one.new.lead) ≡ log ++ e ∷ [] = c.if-not-publish_one.ensures.log in
    record { of = p.of; due = p.due; asked = p.asked; version = p.version ∙ i.version; lives = subst (λ (z : List Entry). Contains (live_after z) 100) (sym more) (lives_on log e 100 c.requires.goes_on i.lives) }
