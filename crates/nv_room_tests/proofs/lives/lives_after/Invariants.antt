use Rattle.std.proofs.Common.{◌≡◌, true, map, take}
use Rattle.std.specs.Prelude.{Contains}
use Rattle.nv_calls.specs.Calls.{entry}
use Rattle.nv_calls.specs.Logs.{live_after}
use Rattle.nv_room_tests.proofs.lives.lives_after.Given as goal

abbrev pub invariant-loop-event : goal.invariant-loop-event
invariant-loop-event l = l.lives ≡ true → Contains (live_after (map entry (take l.event-index l.history))) l.tid
