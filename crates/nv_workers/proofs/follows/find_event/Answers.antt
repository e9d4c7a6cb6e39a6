use Rattle.std.proofs.Common.{ℕ}
use Rattle.nv_room.specs.Seats.{stations_of, view}
use Rattle.nv_room.proofs.Stepped.{more_steps}
use Rattle.nv_workers.proofs.follows.find_event.Goals as goal

pub returns-in-Alive-clause-steps : goal.returns-in-Alive-clause-steps
returns-in-Alive-clause-steps g c =
    more_steps (stations_of c.args.room.now) (view c.args.reader.now) (view c.poll_merged-polled.new.reader) (view c.lower_gone.new.reader) c.poll_merged-polled.ensures.steps c.lower_gone.ensures.steps

pub returns-in-Event-again-clause-steps : goal.returns-in-Event-again-clause-steps
returns-in-Event-again-clause-steps g c =
    let n : ℕ = stations_of c.args.room.now in
    let polled = view c.poll_merged-polled.new.reader in
    let looked = view c.lower_gone.new.reader in
    let new = view c.poll_merged-again.new.reader in
    more_steps n (view c.args.reader.now) polled new c.poll_merged-polled.ensures.steps (more_steps n polled looked new c.lower_gone.ensures.steps c.poll_merged-again.ensures.steps)

pub returns-in-Free-again-clause-steps : goal.returns-in-Free-again-clause-steps
returns-in-Free-again-clause-steps g c =
    let n : ℕ = stations_of c.args.room.now in
    let polled = view c.poll_merged-polled.new.reader in
    let looked = view c.lower_gone.new.reader in
    let new = view c.poll_merged-again.new.reader in
    more_steps n (view c.args.reader.now) polled new c.poll_merged-polled.ensures.steps (more_steps n polled looked new c.lower_gone.ensures.steps c.poll_merged-again.ensures.steps)
