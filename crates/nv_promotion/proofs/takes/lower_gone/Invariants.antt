use Rattle.std.proofs.Common.{◌≡◌, ◌<◌, ◌≤◌, ℕ, get_or}
use Rattle.nv_room.specs.Owner.{GONE}
use Rattle.nv_room.specs.Kinds.{Stepped}
use Rattle.nv_room.specs.Seats.{IsOfRoom, SameReader, stations_of, view}
use Rattle.nv_promotion.specs.Lowers.{KeepsMarks}
use Rattle.nv_promotion.proofs.takes.lower_gone.Given as goal

abbrev pub invariant-loop-station : goal.invariant-loop-station
invariant-loop-station g l = record {
  of : IsOfRoom l.room l.reader;
  same : SameReader l.fn.reader l.reader;
  kept : KeepsMarks (view l.fn.reader) (view l.reader);
  steps : Stepped (stations_of l.room) (view l.fn.reader) (view l.reader);
  looks : (view l.fn.reader).cursor_looks ≤ (view l.reader).cursor_looks;
  gone : (s : ℕ) → s < l.station → get_or (view l.reader).floors s 0 ≡ GONE;
}
