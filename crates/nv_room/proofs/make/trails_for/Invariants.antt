use Rattle.std.proofs.Common.{◌≡◌, [], length}
use Rattle.std.specs.List.{All}
use Rattle.nv_room.specs.Trails.{Trails}
use Rattle.nv_room.proofs.make.trails_for.Given as goal

abbrev pub invariant-loop : goal.invariant-loop
invariant-loop l = record {
  many : length l.trails.items ≡ l.counter;
  begun : All (λ t. Trails l.fn.places t [] []) l.trails.items;
}
