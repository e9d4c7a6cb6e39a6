use Rattle.std.proofs.Common.{◌≡◌, ◌<◌, ◌≤◌, ◌+◌, ◌-◌, ℕ, suc, length, map, take}
use Rattle.std.specs.Prelude.{slice_index}
use Rattle.nv_sockets.specs.Coming.{HasInput}
use Rattle.nv_script.specs.ArrivalViews.{view as arrival_of}
use Rattle.nv_arriving.specs.Reserved.{data_of}
use Rattle.nv_arriving.proofs.reserving.promise_all.Given as goal

abbrev pub invariant-loop-arrival : goal.invariant-loop-arrival
invariant-loop-arrival l = record {
  others : l.sockets ≡ record l.fn.sockets { promised = l.sockets.promised };
  len : length l.kept ≡ length l.fn.kept;
  data_fits : (j : ℕ) → HasInput l.sockets j (data_of j (map arrival_of (take l.arrival-index l.arrivals)));
  each : (p : ℕ) → p < length l.kept → data_of (length l.sockets.net.links + length l.kept - suc p) (map arrival_of (take l.arrival-index l.arrivals)) ≤ slice_index l.kept p;
}
