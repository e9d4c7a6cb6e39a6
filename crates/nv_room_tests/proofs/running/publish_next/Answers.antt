use Rattle.std.proofs.Common.{sym, subst, ◌≡◌, List, [], ◌∷◌, ◌++◌}
use Rattle.std.proofs.lemmas.Bool.{OnTrue_at, OnTrue_from}
use Rattle.std.specs.Prelude.{Contains}
use Rattle.nv_calls.specs.Calls.{Entry, request}
use Rattle.nv_calls.specs.Logs.{served, live_after}
use Rattle.nv_room.specs.Seats.{kernel_of}
use Rattle.nv_room_tests.proofs.Living.{lives_on}
use Rattle.nv_room_tests.proofs.running.publish_next.Goals as goal

pub returns-clause-lives : goal.returns-clause-lives
returns-clause-lives g c =
    let log : List Entry = g.K.SyscallKernel.log (kernel_of c.args.lead.now) in
    let e : Entry = served (g.K.SyscallKernel.known (kernel_of c.publish_one.new.lead)) log (request c.call-call.result.now) in
    OnTrue_from c.publish_one.result (Contains (live_after (g.K.SyscallKernel.log (kernel_of c.publish_one.new.lead))) 100) (λ is.
    let more : g.K.SyscallKernel.log (kernel_of c.publish_one.new.lead) ≡ log ++ e ∷ [] = OnTrue_at is c.publish_one.ensures.log in
    subst (λ (z : List Entry). Contains (live_after z) 100) (sym more) (lives_on log e 100 c.call-call.ensures.goes_on c.requires.lives))
