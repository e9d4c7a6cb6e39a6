use Rattle.std.proofs.Common.{◌≡◌, ◌≤◌, ℕ, List, take}
use Rattle.nv_threads.specs.Threads.{threads}
use Rattle.nv_replay.specs.Account.{AreFresh}
use Rattle.nv_driver.specs.Seen.{limits_view, names_view}
use Rattle.nv_script.specs.Views.{setup_of}
use Rattle.nv_driver.specs.inner.Refusals.{AreLoaded}
use Rattle.nv_driver.proofs.preparing.read_versions.Given as goal

abbrev pub invariant-loop-index : goal.invariant-loop-index
invariant-loop-index g l = AreLoaded (limits_view l.limits) (setup_of l.script) l.versions.items (g.F.Files.holds l.fn.files) (take l.index (names_view l.names))
    × AreFresh threads 0 l.versions.items
    × ((name : List ℕ) → g.F.Files.holds l.files name ≡ g.F.Files.holds l.fn.files name)
    × (g.F.Files.faults l.files ≡ g.F.Files.faults l.fn.files)
    × (g.F.Files.taken l.fn.files ≤ g.F.Files.taken l.files)
