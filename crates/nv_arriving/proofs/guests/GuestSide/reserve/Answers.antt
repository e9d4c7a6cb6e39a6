use Rattle.std.proofs.Common.{◌≡◌, ◌∙◌, ap, sym}
use Rattle.std.proofs.lemmas.Result.{on_ok_weaker}
use Rattle.nv_calls.specs.Calls.{request}
use Rattle.nv_kernel.specs.Reserved.{CanAnswer}
use Rattle.nv_fs.specs.States.{FileState}
use Rattle.nv_fs.specs.Reserved.{Disk}
use Rattle.nv_sockets.specs.Reserved.{Buffered, CanSend}
use Rattle.nv_arriving.proofs.Sides.{can_still, send_still}
use Rattle.nv_arriving.proofs.guests.GuestSide.reserve.Goals as goal

pub returns-clause-ready : goal.returns-clause-ready
returns-clause-ready c =
    let d : Disk = c.reserve.new.self.devices.files in
    let e : Disk = c.reserve_some.new.self.host.devices.files in
    let s : e.state ≡ record d.state { input = e.state.input } = c.reserve_some.ensures.state ∙ ap (λ (z : FileState). record d.state { input = z.input }) (sym c.reserve_some.ensures.state) in
    on_ok_weaker {Q = CanAnswer e (request c.args.call.now)} c.reserve_some.result (λ _. can_still d e (request c.args.call.now) s c.reserve_some.ensures.reserved c.reserve_some.ensures.gone c.in_ok-reserve.ensures.ready) c.reserve_some.ensures.takes

pub returns-clause-sends : goal.returns-clause-sends
returns-clause-sends c =
    let w : Buffered = c.reserve.new.self.sockets in
    let v : Buffered = c.reserve_some.new.self.host.sockets in
    on_ok_weaker {Q = CanSend v (request c.args.call.now)} c.reserve_some.result (λ _. send_still w v (request c.args.call.now) c.reserve_some.ensures.sockets c.in_ok-reserve.ensures.sends) c.reserve_some.ensures.takes
