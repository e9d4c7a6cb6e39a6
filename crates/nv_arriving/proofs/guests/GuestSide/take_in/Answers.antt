use Rattle.std.proofs.Common.{◌∙◌, ap, sym, subst, length, map}
use Rattle.nv_kernel.specs.Crew.{Crew}
use Rattle.nv_kernel.specs.Reserved.{CanAnswer}
use Rattle.nv_sockets.specs.Kernel.{state_of}
use Rattle.nv_sockets.specs.Reserved.{CanSend}
use Rattle.nv_sockets.specs.declared.host.Host.{Host}
use Rattle.nv_arriving.specs.Arriving.{Standing}
use Rattle.nv_script.specs.ArrivalViews.{view as arrival_of}
use Rattle.nv_arriving.specs.Views.{standing_of, room_of}
use Rattle.nv_arriving.proofs.Rooms.{kept_by}
use Rattle.nv_arriving.proofs.Sides.{can_still, crew_still, served_still, sends_after}
use Rattle.nv_arriving.proofs.guests.GuestSide.take_in.Goals as goal

pub returns-clause-served : goal.returns-clause-served
returns-clause-served c =
    ap (λ (h : Host). (state_of h).own.served) c.tell_end.ensures.host
    ∙ (ap (λ (s : Standing). s.state.own.served) c.arrive_all.ensures.standing ∙ served_still (standing_of c.args.self.now) (map arrival_of c.args.arrivals.now))

pub returns-clause-clones : goal.returns-clause-clones
returns-clause-clones c =
    ap (λ (h : Host). (state_of h).own.crew.clones) c.tell_end.ensures.host
    ∙ (ap (λ (s : Standing). s.state.own.crew.clones) c.arrive_all.ensures.standing ∙ ap (λ (z : Crew). z.clones) (crew_still (standing_of c.args.self.now) (map arrival_of c.args.arrivals.now)))

pub returns-clause-ready : goal.returns-clause-ready
returns-clause-ready c = λ call can.
    subst (λ (h : Host). CanAnswer h.devices.files call) (sym c.tell_end.ensures.host)
    (can_still _ _ call c.arrive_all.ensures.disk.state c.arrive_all.ensures.disk.reserved c.arrive_all.ensures.disk.gone can)

pub returns-clause-sends : goal.returns-clause-sends
returns-clause-sends c = λ call waits can.
    subst (λ (h : Host). CanSend h.sockets call) (sym c.tell_end.ensures.host)
    (sends_after (standing_of c.args.self.now) call c.args.self.now.host.sockets c.arrive_all.new.self.host.sockets (length c.args.arrivals.now) waits c.arrive_all.ensures.none can)

pub returns-clause-kept : goal.returns-clause-kept
returns-clause-kept c = λ h.
    let host = c.tell_end.ensures.host in
    kept_by (room_of c.arrive_all.new.self) (room_of c.tell_end.new.self) (ap (λ (z : Host). z.sockets.held) host) (ap (λ (z : Host). z.devices.files.gone) host)
    (c.arrive_all.ensures.kept h)
