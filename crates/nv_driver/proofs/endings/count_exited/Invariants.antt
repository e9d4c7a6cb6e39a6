use Rattle.std.proofs.Common.{◌≡◌, ◌+◌, ◌≤◌, count_by, drop}
use Rattle.nv_threads.specs.Threads.{Proc}
use Rattle.nv_replay.specs.Follow.{is_exited}
use Rattle.nv_replay.specs.Version.{Running, standing_of}
use Rattle.nv_driver.proofs.endings.count_exited.Given as goal

abbrev pub invariant-loop-version : goal.invariant-loop-version
invariant-loop-version l =
    (l.count + count_by (λ (version : Running Proc). is_exited (standing_of version).fate) (drop l.version-index l.versions) ≡ count_by (λ (version : Running Proc). is_exited (standing_of version).fate) l.versions)
    × (l.count ≤ l.version-index)
