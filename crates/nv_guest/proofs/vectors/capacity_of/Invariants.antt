use Rattle.std.proofs.Common.{◌≡◌, ◌+◌, ◌-◌, ◌*◌, ◌≤◌, option_map}
use Rattle.nv_memory.specs.declared.region.Right.TheVariants.{Write}
use Rattle.nv_guest.specs.Vectors.{parts_at, capacity}
use Rattle.nv_guest.proofs.vectors.capacity_of.Given as goal

-- the bytes so far, and those of the vectors from here on
abbrev pub invariant-loop-i : goal.invariant-loop-i
invariant-loop-i l = record {
  capacity : option_map (λ parts. (l.most - l.left) + capacity parts) (parts_at l.memory Write (l.count - l._i) l.left l.at) ≡ option_map capacity (parts_at l.memory Write l.count l.most l.address);
  few : l.left ≤ l.most;
  place : l.at ≡ l.address + 8 * l._i;
}
