use Rattle.std.proofs.Common.{◌≡◌, ◌-◌, replicate}
use Rattle.nv_memory.specs.Bytes.{put}
use Rattle.nv_memory.proofs.bytes.clear.Given as goal

abbrev pub invariant-loop-i : goal.invariant-loop-i
invariant-loop-i l = put l.bytes l.i (replicate (l.to - l.i) 0) ≡ put l.fn.bytes l.from (replicate (l.to - l.from) 0)
