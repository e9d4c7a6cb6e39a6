use Rattle.std.proofs.Common.{◌≡◌}
use Rattle.nv_room.specs.Seats.{version_of_reader}
use Rattle.nv_room_tests.specs.Backs.{HasReadNothing}
use Rattle.nv_room_tests.proofs.running.follow.Given as goal

abbrev pub invariant-loop-turn : goal.invariant-loop-turn
invariant-loop-turn g l = record {
  of : HasReadNothing l.room l.reader;
  version : version_of_reader l.reader ≡ version_of_reader l.initial.reader;
}
