use Rattle.std.proofs.Common.{◌≡◌, length, drop}
use Rattle.nv_bpf.specs.Verified.{ops_fault}
use Rattle.nv_bpf.proofs.filter.ops_fault.Given as goal

abbrev pub invariant-loop-i : goal.invariant-loop-i
invariant-loop-i l = ops_fault (length l.ops) 0 l.ops ≡ ops_fault (length l.ops) l.i (drop l.i l.ops)
