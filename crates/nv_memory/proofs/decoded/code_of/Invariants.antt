use Rattle.std.proofs.Common.{◌≡◌, drop}
use Rattle.nv_memory.specs.Code.{code_start}
use Rattle.nv_memory.proofs.decoded.code_of.Given as goal

abbrev pub invariant-loop-region : goal.invariant-loop-region
invariant-loop-region l = code_start l.regions ≡ code_start (drop l.region-index l.regions)
