use Rattle.std.proofs.Common.{take}
use Rattle.nv_threads.specs.Threads.{threads}
use Rattle.nv_replay.specs.Account.{AreFresh}
use Rattle.nv_gen.specs.Texts.{bare}
use Rattle.nv_driver.specs.inner.Generated.{AreFrom}
use Rattle.nv_driver.proofs.generating.read_versions.Given as goal

abbrev pub invariant-loop-index : goal.invariant-loop-index
invariant-loop-index l = AreFrom bare (take l.index l.files) l.versions.items × AreFresh threads 0 l.versions.items
