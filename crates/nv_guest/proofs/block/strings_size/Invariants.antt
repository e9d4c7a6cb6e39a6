use Rattle.std.proofs.Common.{◌≡◌, ◌+◌, ◌≤◌, length, drop, map}
use Rattle.nv_guest.specs.Block.{strings}
use Rattle.nv_guest.proofs.block.strings_size.Given as goal

abbrev pub invariant-loop-text : goal.invariant-loop-text
invariant-loop-text l = record {
  most : l.size ≤ 65536;
  count : l.text-index ≤ l.size;
  place : l.size + length (strings (drop l.text-index (map (λ v. v.items) l.arguments))) ≡ length (strings (map (λ v. v.items) l.arguments));
}
