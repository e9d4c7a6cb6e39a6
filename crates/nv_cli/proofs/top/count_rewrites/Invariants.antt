use Rattle.std.proofs.Common.{◌≡◌, ◌≤◌, ◌*◌, take}
use Rattle.std.specs.Prelude.{sum_by}
use Rattle.nv_replay.specs.Version.{standing_of}
use Rattle.nv_cli.proofs.top.count_rewrites.Given as goal

abbrev pub invariant-loop-version : goal.invariant-loop-version
invariant-loop-version l = (l.rewrites ≡ sum_by (λ version. (standing_of version).rewrites) (take l.version-index l.versions)) × (l.rewrites ≤ l.version-index * 500000001500000008)
