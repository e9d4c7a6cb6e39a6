use Rattle.std.proofs.Common.{◌∙◌, ap, refl, List, map, take, arith}
use Rattle.nv_script.specs.Arrivals.{Arrival}
use Rattle.nv_script.specs.ArrivalViews.{view as arrival_of}
use Rattle.nv_arriving.specs.Reserved.{input_bytes}
use Rattle.nv_arriving.proofs.Sides.{bytes_last}
use Rattle.nv_arriving.proofs.Steps.{step, whole}
use Rattle.nv_arriving.proofs.reserving.input_bytes.Goals as goal

pub loop-arrival-init : goal.loop-arrival-init
loop-arrival-init c = refl

pub loop-arrival-preserved : goal.loop-arrival-preserved
loop-arrival-preserved c =
    let front : List Arrival = map arrival_of (take c.loop-arrival.arrival-index c.args.arrivals.now) in
    let all = ap input_bytes (step c.args.arrivals.now c.loop-arrival.arrival-index c.arrival-item.result c.loop-arrival-test.true c.arrival-item.is) ∙ bytes_last front (arrival_of c.arrival-item.result) in
    omega (arith, all, c.brings.ensures, c.in_ok-count.ensures, c.loop-arrival.invariant)

pub returns : goal.returns
returns c = c.loop-arrival.invariant ∙ ap input_bytes (whole c.args.arrivals.now c.loop-arrival.arrival-index c.loop-arrival-test.false)
