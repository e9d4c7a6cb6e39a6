use Rattle.std.proofs.Common.{◌≡◌, ◌+◌, ◌≤◌, length, drop, map}
use Rattle.nv_memory.specs.Bytes.{put}
use Rattle.nv_guest.specs.Block.{strings}
use Rattle.nv_guest.proofs.block.write_strings.Given as goal

abbrev pub invariant-loop-text : goal.invariant-loop-text
invariant-loop-text l = record {
  begun : l.start ≤ l.at;
  written : put l.memory.bytes l.at (strings (drop l.text-index (map (λ v. v.items) l.arguments))) ≡ put l.fn.memory.bytes l.start (strings (map (λ v. v.items) l.arguments));
  same : l.memory.regions ≡ l.fn.memory.regions;
  place : l.at + length (strings (drop l.text-index (map (λ v. v.items) l.arguments))) ≡ l.start + length (strings (map (λ v. v.items) l.arguments));
}
