use Rattle.std.proofs.Common.{◌≡◌, ◌++◌, ◌+◌, ◌-◌, ◌*◌, take}
use Rattle.nv_guest.specs.Answers.{targets_at}
use Rattle.nv_guest.proofs.answers.read_targets.Given as goal

-- the parts so far, and those of the vectors from here on
abbrev pub invariant-loop-i : goal.invariant-loop-i
invariant-loop-i l = record {
  parts : take l.i l.targets ++ targets_at l.memory (l.count - l.i) l.left l.at ≡ targets_at l.memory l.count l.most l.address;
  place : l.at ≡ l.address + 8 * l.i;
}
