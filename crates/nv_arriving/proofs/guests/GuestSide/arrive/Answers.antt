use Rattle.std.proofs.Common.{[], ◌∷◌, ◌++◌, ℕ, true, sym, subst, List}
use Rattle.nv_script.specs.declared.arrival.Arrival.{Arrival}
use Rattle.nv_script.specs.Arrivals.{Data}
use Rattle.nv_script.specs.ArrivalViews.{view as arrival_of}
use Rattle.nv_arriving.specs.Reserved.{HasRoom}
use Rattle.nv_arriving.specs.Views.{room_of}
use Rattle.nv_arriving.proofs.Rooms.{room_data, room_end, whole_changed}
use Rattle.nv_arriving.proofs.guests.GuestSide.arrive.Goals as goal

pub returns-in-Data-clause-room : goal.returns-in-Data-clause-room
returns-in-Data-clause-room c = λ xs h.
    let told = subst (λ (a : Arrival). HasRoom (room_of c.args.self.now) (arrival_of a ∷ xs)) c.in-Data.is h in
    let mine = subst (λ (bytes : List ℕ). HasRoom (room_of c.args.self.now) (Data c.in-Data.client bytes ∷ xs)) (sym c.as_slice-in-Data.ensures.value) told in
    room_data (room_of c.args.self.now) c.add_data.new.self c.in-Data.client c.as_slice-in-Data.result.now xs c.add_data.ensures.others c.add_data.ensures.keeps mine

pub returns-in-Data-clause-kept : goal.returns-in-Data-clause-kept
returns-in-Data-clause-kept c =
    whole_changed (room_of c.args.self.now) c.add_data.new.self c.in-Data.client (λ inbox. record inbox { unread = inbox.unread ++ c.as_slice-in-Data.result.now }) c.add_data.new.self.promised [] c.add_data.ensures.others

pub returns-in-End-clause-room : goal.returns-in-End-clause-room
returns-in-End-clause-room c = λ xs h.
    let mine = subst (λ (a : Arrival). HasRoom (room_of c.args.self.now) (arrival_of a ∷ xs)) c.in-End.is h in
    room_end (room_of c.args.self.now) c.end.new.self c.in-End.client xs c.end.ensures.others c.end.ensures.keeps mine

pub returns-in-End-clause-kept : goal.returns-in-End-clause-kept
returns-in-End-clause-kept c =
    whole_changed (room_of c.args.self.now) c.end.new.self c.in-End.client (λ inbox. record inbox { over = true }) c.args.self.now.host.sockets.promised [] c.end.ensures.others
