use Rattle.std.proofs.Common.{◌≡◌, []}
use Rattle.nv_room.specs.Seats.{IsOfRoom, view, version_of_reader}
use Rattle.nv_room_tests.proofs.changing.read_some.Given as goal

abbrev pub invariant-loop-event : goal.invariant-loop-event
invariant-loop-event g l = record {
  of : IsOfRoom l.room l.reader;
  none_read : (view l.reader).read ≡ [];
  version : version_of_reader l.reader ≡ version_of_reader l.fn.reader;
}
