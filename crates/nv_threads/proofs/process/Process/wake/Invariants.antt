use Rattle.std.proofs.Common.{◌≡◌, ◌-◌}
use Rattle.nv_threads.specs.Threads.{woken}
use Rattle.nv_threads.proofs.Writing.{add}
use Rattle.nv_threads.proofs.process.Process.wake.Given as goal

abbrev pub invariant-loop-count : goal.invariant-loop-count
invariant-loop-count l = woken l.most l.address l.initial.self ≡ add l.count (woken (l.most - l.count) l.address l.self)
