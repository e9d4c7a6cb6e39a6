use Rattle.nv_guest.specs.Guest.{machine_with}
use Rattle.nv_guest.proofs.Known.{IsAt}
use Rattle.nv_guest.proofs.threads.run_known.Given as goal

abbrev pub invariant-loop-count : goal.invariant-loop-count
invariant-loop-count l = IsAt l.most (machine_with l.initial.regs l.initial.memory) l.count l.start l.at l.regs l.memory
