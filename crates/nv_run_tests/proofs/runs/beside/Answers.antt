use Rattle.std.proofs.Common.{arith, rules}
use Rattle.std.specs.Option.{option_copied}
use Rattle.nv_replay.specs.Follow.{judge_of}
use Rattle.nv_workers.proofs.NewSeats.{as_made}
use Rattle.nv_run_tests.proofs.runs.beside.Goals as goal

pub staff-requires-clause-seats : goal.staff-requires-clause-seats
staff-requires-clause-seats g c κs within =
    let m = c.in_ok-room.ensures in
    (c.in_ok-room.room, as_made c.in_ok-room.room c.in_ok-room.readers.items c.in_ok-room.lead m.readers.1 m.lead m.log)

pub run_all-requires-clause-new : goal.run_all-requires-clause-new
run_all-requires-clause-new g c κs within =
    let m = c.in_ok-room.ensures in (
      c.in-Some.versions.items,
      c.in_ok-workers.ensures.new c.in_ok-room.room
          (as_made c.in_ok-room.room c.in_ok-room.readers.items c.in_ok-room.lead m.readers.1 m.lead m.log),
    )

pub run_all-requires-clause-terms : goal.run_all-requires-clause-terms
run_all-requires-clause-terms g c κs within = record { most = omega arith; hands = search rules }

pub end-requires-after_bounds : goal.end-requires-after_bounds
end-requires-after_bounds g c κs within =
    let m = c.in_ok-room.ensures in (
      judge_of (option_copied c.args.rules),
      1000,
      c.in-Some.versions.items,
      c.in_ok-ran.ensures.ran c.in-Some.versions.items (c.in_ok-workers.ensures.new c.in_ok-room.room
          (as_made c.in_ok-room.room c.in_ok-room.readers.items c.in_ok-room.lead m.readers.1 m.lead m.log)),
    )
