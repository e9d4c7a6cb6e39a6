use Rattle.nv_room.specs.Seats.{stations_of, view}
use Rattle.nv_room.specs.Kinds.{sees}
use Rattle.nv_room.proofs.Stepped.{one_step}
use Rattle.nv_ring.proofs.reads.advance.Goals as goal

pub returns-clause-steps : goal.returns-clause-steps
returns-clause-steps g c = one_step (stations_of c.args.room.now) (view c.args.reader.now) (view c.advance_step.new.reader) sees (c.advance_step.ensures.few, c.advance_step.ensures.view)
