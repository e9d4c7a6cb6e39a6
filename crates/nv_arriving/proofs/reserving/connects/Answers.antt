use Rattle.std.proofs.Common.{◌∙◌, ap, List, map, take, arith}
use Rattle.nv_script.specs.Arrivals.{Arrival}
use Rattle.nv_script.specs.ArrivalViews.{view as arrival_of}
use Rattle.nv_arriving.specs.Reserved.{connects}
use Rattle.nv_arriving.proofs.Rooms.{connects_last}
use Rattle.nv_arriving.proofs.Steps.{step, whole}
use Rattle.nv_arriving.proofs.reserving.connects.Goals as goal

pub loop-arrival-preserved : goal.loop-arrival-preserved
loop-arrival-preserved c =
    let front : List Arrival = map arrival_of (take c.loop-arrival.arrival-index c.args.arrivals.now) in
    let all = ap connects (step c.args.arrivals.now c.loop-arrival.arrival-index c.arrival-item.result c.loop-arrival-test.true c.arrival-item.is) ∙ connects_last front (arrival_of c.arrival-item.result) in
    record { is = omega (arith, all, c.is_client-count.ensures.is, c.loop-arrival.invariant.is); few = omega (arith, c.is_client-count.ensures.few, c.loop-arrival.invariant.few) }

pub returns-clause-is : goal.returns-clause-is
returns-clause-is c = c.loop-arrival.invariant.is ∙ ap connects (whole c.args.arrivals.now c.loop-arrival.arrival-index c.loop-arrival-test.false)
