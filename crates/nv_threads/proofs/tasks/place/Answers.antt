use Rattle.std.proofs.Common.{arith}
use Rattle.nv_threads.proofs.Places.{place_inside, place_none}
use Rattle.nv_threads.proofs.tasks.place.Goals as goal

pub unreachable-requires : goal.unreachable-requires
unreachable-requires c =
    let inside = place_inside c.args.tasks.now c.args.tid c.requires in
    let none = place_none c.args.tasks.now c.args.tid c.loop-i.i c.loop-i-test.false in
    omega (arith, inside, none, c.loop-i.invariant, c.loop-i-test.false)
