use Rattle.nv_room.specs.Seats.{stations_of, view}
use Rattle.nv_room.proofs.Stepped.{more_steps}
use Rattle.nv_lamport.proofs.Keeping.{keeps_then}
use Rattle.nv_lamport.proofs.reads.next_event.Goals as goal

pub returns-clause-read : goal.returns-clause-read
returns-clause-read g c = let f = c.find_lane.ensures.found in let r = c.read_event.ensures.read in record {
  kept = keeps_then _ _ _ f.kept r.kept;
  published = r.published;
  read = r.read;
  whole = r.whole;
  lawful = r.lawful;
}

pub returns-clause-steps : goal.returns-clause-steps
returns-clause-steps g c = more_steps (stations_of c.args.room.now) (view c.args.reader.now) (view c.find_lane.new.reader) (view c.read_event.new.reader) c.find_lane.ensures.steps c.read_event.ensures.steps
