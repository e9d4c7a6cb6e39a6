use Rattle.std.proofs.Common.{ap, ◌≡◌, ◌∙◌, List, [], ◌∷◌, ◌++◌}
use Rattle.nv_calls.specs.Calls.{Entry, request}
use Rattle.nv_calls.specs.Logs.{served, live_after}
use Rattle.nv_room.specs.Seats.{kernel_of}
use Rattle.nv_room_tests.proofs.Living.{all_end}
use Rattle.nv_room_tests.proofs.changing.end_lead.Goals as goal

pub close-requires-clause-ended : goal.close-requires-clause-ended
close-requires-clause-ended g c κs within =
    let log : List Entry = g.K.SyscallKernel.log (kernel_of c.args.lead) in
    let e : Entry = served (g.K.SyscallKernel.known (kernel_of c.publish_one.new.lead)) log (request c.args.last.now) in
    let more : g.K.SyscallKernel.log (kernel_of c.publish_one.new.lead) ≡ log ++ e ∷ [] = c.if-not-publish_one.ensures.log in
    ap live_after more ∙ all_end log e c.requires.ends
