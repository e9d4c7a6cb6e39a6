use Rattle.std.proofs.Common.{◌≡◌, ◌≤◌, ◌*◌, map}
use Rattle.std.specs.List.{range_with_len}
use Rattle.nv_calls.specs.Calls.{request}
use Rattle.nv_arriving.specs.Polling.{ready_in, ready_byte}
use Rattle.nv_arriving.specs.Views.{standing_of}
use Rattle.nv_arriving.proofs.guests.GuestSide.look_in_sets.Given as goal

abbrev pub invariant-loop-at : goal.invariant-loop-at
invariant-loop-at l =
    (l.looked.told.items ≡ map (ready_byte (standing_of l.self) (request l.call)) (range_with_len 0 l.at))
    × (l.looked.ready ≡ ready_in (standing_of l.self) (request l.call) (range_with_len 0 (8 * l.at)))
    × (l.looked.ready ≤ 8 * l.at)
