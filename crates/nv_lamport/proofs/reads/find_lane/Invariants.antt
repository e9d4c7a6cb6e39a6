use Rattle.std.proofs.Common.{◌≡◌, ℕ, ◌<◌, length}
use Rattle.nv_room.specs.Stamps.{Lives}
use Rattle.nv_room.specs.Room.{Has}
use Rattle.nv_room.specs.Steps.{IsOpen}
use Rattle.nv_room.specs.Kinds.{Stepped}
use Rattle.nv_room.specs.Seats.{IsOfRoom, SameReader, stations_of, view}
use Rattle.nv_lamport.specs.Polls.{Keeps}
use Rattle.nv_lamport.proofs.reads.find_lane.Given as goal

abbrev pub invariant-loop-lane : goal.invariant-loop-lane
invariant-loop-lane g l = record {
  same : SameReader l.fn.reader l.reader;
  of : IsOfRoom l.room l.reader;
  kept : Keeps (view l.fn.reader) (view l.reader);
  steps : Stepped (stations_of l.room) (view l.fn.reader) (view l.reader);
  ahead : length (view l.reader).seen < (view l.reader).head_last;
  read : (view l.reader).read ≡ (view l.fn.reader).read;
  missed : (j : ℕ) → j < l.lane → Lives (view l.reader).seen j → Has (view l.reader).missed j;
  open_lane : 0 < l.lane → IsOpen (view l.reader).seen (view l.reader).missed;
}
