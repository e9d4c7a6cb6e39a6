use Rattle.std.proofs.Common.{◌≡◌, ◌++◌, ◌+◌, ◌-◌, ◌*◌, ◌≤◌, length, take, option_map}
use Rattle.nv_memory.specs.declared.region.Right.TheVariants.{Read}
use Rattle.nv_guest.specs.Vectors.{parts_at, joined_parts}
use Rattle.nv_guest.proofs.vectors.gather.Given as goal

-- the bytes so far, and those of the vectors from here on
abbrev pub invariant-loop-i : goal.invariant-loop-i
invariant-loop-i l = record {
  bytes : option_map (λ parts. take l.filled l.out ++ joined_parts l.memory parts) (parts_at l.memory Read (l.count - l._i) (length l.initial.out - l.filled) l.at)
      ≡ option_map (joined_parts l.memory) (parts_at l.memory Read l.count (length l.initial.out) l.address);
  inside : l.filled ≤ length l.initial.out;
  place : l.at ≡ l.address + 8 * l._i;
}
