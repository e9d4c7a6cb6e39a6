use Rattle.std.proofs.Common.{◌≡◌, length, map, take, drop}
use Rattle.nv_script.specs.ArrivalViews.{view as arrival_of}
use Rattle.nv_arriving.specs.Arriving.{arrive_all}
use Rattle.nv_arriving.specs.Reserved.{CanTakeIn, IsKept, IsSameBut}
use Rattle.nv_arriving.specs.Views.{standing_of, room_of}
use Rattle.nv_arriving.proofs.guests.GuestSide.arrive_all.Given as goal

abbrev pub invariant-loop-arrival : goal.invariant-loop-arrival
invariant-loop-arrival l = record {
  standing : standing_of l.self ≡ arrive_all (standing_of l.fn.self) (map arrival_of (take l.arrival-index l.arrivals));
  disk : IsSameBut l.fn.self.host.devices.files l.self.host.devices.files;
  none : length l.arrivals ≡ 0 → l.self.host.sockets ≡ l.fn.self.host.sockets;
  kept : IsKept (room_of l.fn.self) → IsKept (room_of l.self);
  takes : CanTakeIn (room_of l.self) (map arrival_of (drop l.arrival-index l.arrivals));
}
