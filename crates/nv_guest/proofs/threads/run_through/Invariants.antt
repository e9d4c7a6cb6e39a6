use Rattle.std.proofs.Common.{◌≡◌, ◌-◌, ◌≤◌}
use Rattle.nv_guest.specs.Guest.{machine_with}
use Rattle.nv_guest.specs.Threads.{run, more}
use Rattle.nv_guest.proofs.threads.run_through.Given as goal

abbrev pub invariant-loop-count : goal.invariant-loop-count
invariant-loop-count l = (l.count ≤ l.most) × (run l.most (machine_with l.initial.regs l.initial.memory) ≡ more l.count (run (l.most - l.count) (machine_with l.regs l.memory)))

abbrev pub decreases-loop-count : goal.decreases-loop-count
decreases-loop-count l = l.most - l.count
