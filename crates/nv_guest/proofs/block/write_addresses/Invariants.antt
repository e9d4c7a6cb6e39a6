use Rattle.std.proofs.Common.{◌≡◌, ◌+◌, ◌*◌, length, drop, map}
use Rattle.nv_memory.specs.Bytes.{put}
use Rattle.nv_guest.specs.Block.{strings, addresses, words}
use Rattle.nv_guest.proofs.block.write_addresses.Given as goal

abbrev pub invariant-loop-text : goal.invariant-loop-text
invariant-loop-text l = record {
  at : l.at ≡ l.start + 4 * l.text-index;
  written : put l.memory.bytes l.at (words (addresses l.address (drop l.text-index (map (λ v. v.items) l.arguments)))) ≡ put l.fn.memory.bytes l.start (words (addresses l.first (map (λ v. v.items) l.arguments)));
  same : l.memory.regions ≡ l.fn.memory.regions;
  place : l.address + length (strings (drop l.text-index (map (λ v. v.items) l.arguments))) ≡ l.first + length (strings (map (λ v. v.items) l.arguments));
}
