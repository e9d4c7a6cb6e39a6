use Rattle.std.proofs.Common.{◌≡◌, ℕ, map, take, length}
use Rattle.std.specs.Prelude.{slice_index}
use Rattle.nv_sockets.specs.Reserved.{AllThere}
use Rattle.nv_sockets.specs.Views.{link_of, gone_of, incoming_of}
use Rattle.nv_sockets.specs.Serving.{link_from}
use Rattle.nv_sockets.proofs.sockets.begun.Given as goal

abbrev pub invariant-loop-port : goal.invariant-loop-port
invariant-loop-port l = record {
  links : map link_of l.made.items ≡ map link_from (map incoming_of (take l.port-index l.stated));
  there : AllThere l.made.numbers (length l.made.items);
  gone : (i : ℕ) → slice_index (map gone_of l.made.items) i ≡ 0;
}
