use Rattle.std.proofs.Common.{◌≡◌, length, vec_len}
use Rattle.nv_room.specs.Seats.{with_ended}
use Rattle.nv_room.proofs.Back.{Back}
use Rattle.nv_room.proofs.finish.join_all.Given as goal

abbrev pub invariant-loop-one : goal.invariant-loop-one
invariant-loop-one g l = record {
  same : (l.seat.table_id ≡ l.initial.seat.table_id) × (l.seat.id ≡ l.initial.seat.id) × (l.seat.me.0 ≡ with_ended l.initial.seat.me.0 l.seat.me.0.ended);
  back : Back (length l.initial.counts.items) l.table.shared.table_id l.initial.left.items l.left.items l.initial.counts.items l.counts.items l.seat.me.0.ended;
}

abbrev pub decreases-loop-one : goal.decreases-loop-one
decreases-loop-one g l = vec_len l.left
