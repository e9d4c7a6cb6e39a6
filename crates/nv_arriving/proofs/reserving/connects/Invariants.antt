use Rattle.std.proofs.Common.{◌≡◌, ◌≤◌, map, take}
use Rattle.nv_script.specs.ArrivalViews.{view as arrival_of}
use Rattle.nv_arriving.specs.Reserved.{connects}
use Rattle.nv_arriving.proofs.reserving.connects.Given as goal

abbrev pub invariant-loop-arrival : goal.invariant-loop-arrival
invariant-loop-arrival l = record {
  is : l.count ≡ connects (map arrival_of (take l.arrival-index l.arrivals));
  few : l.count ≤ l.arrival-index;
}
