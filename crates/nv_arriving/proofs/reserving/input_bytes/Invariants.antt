use Rattle.std.proofs.Common.{◌≡◌, map, take}
use Rattle.nv_script.specs.ArrivalViews.{view as arrival_of}
use Rattle.nv_arriving.specs.Reserved.{input_bytes}
use Rattle.nv_arriving.proofs.reserving.input_bytes.Given as goal

abbrev pub invariant-loop-arrival : goal.invariant-loop-arrival
invariant-loop-arrival l = l.count ≡ input_bytes (map arrival_of (take l.arrival-index l.arrivals))
