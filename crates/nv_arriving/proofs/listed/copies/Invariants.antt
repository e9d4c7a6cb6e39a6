use Rattle.std.proofs.Common.{◌≡◌, map, take}
use Rattle.nv_script.specs.ArrivalViews.{view as arrival_of}
use Rattle.nv_arriving.proofs.listed.copies.Given as goal

abbrev pub invariant-loop-arrival : goal.invariant-loop-arrival
invariant-loop-arrival l = record {
  same : map arrival_of l.made.items ≡ map arrival_of (take l.arrival-index l.arrivals);
  gone : l.made.gone ≡ 0;
}
