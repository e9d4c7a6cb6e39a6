use Rattle.std.proofs.Common.{ap}
use Rattle.nv_sockets.specs.Reserved.{Held}
use Rattle.nv_arriving.specs.Views.{room_of}
use Rattle.nv_arriving.proofs.Rooms.{room_connect, whole_connect}
use Rattle.nv_arriving.proofs.guests.GuestSide.connect.Goals as goal

pub returns-clause-room : goal.returns-clause-room
returns-clause-room c = λ xs h.
    room_connect (room_of c.args.self.now) c.connect.new.self c.take_last-inbox.result.promised c.take_last-inbox.new.self c.args.port c.connect.ensures.net (ap (λ (z : Held). z.there) c.connect.ensures.held) (ap (λ (z : Held). z.gone) c.connect.ensures.held)
    c.take_last-inbox.ensures.rest xs h c.connect.ensures.places c.connect.ensures.waits c.connect.ensures.keeps c.connect.ensures.own

pub returns-clause-kept : goal.returns-clause-kept
returns-clause-kept c =
    whole_connect (room_of c.args.self.now) c.connect.new.self c.take_last-inbox.result.promised c.take_last-inbox.new.self c.args.port c.connect.ensures.net (ap (λ (z : Held). z.there) c.connect.ensures.held) (ap (λ (z : Held). z.gone) c.connect.ensures.held)
