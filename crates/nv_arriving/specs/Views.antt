-- The code's values as the definitions see them.
use Rattle.nv_sockets.specs.Kernel as sockets
use Rattle.nv_arriving.specs.declared.guests.GuestSide.{GuestSide}
use Rattle.nv_arriving.specs.Standings.{Standing}
use Rattle.nv_arriving.specs.Reserved.{Room}

abbrev pub standing_of : GuestSide → Standing
standing_of h = record {
  state = sockets.state_of h.host;
  input_over = h.input_over;
  clients_over = h.clients_over;
  data_over = h.data_over;
  polls = h.polls;
  nonblocking = h.nonblocking;
}

abbrev pub room_of : GuestSide → Room
room_of h = record {
  disk = h.host.devices.files;
  buffered = h.host.sockets;
  kept = h.kept;
}
