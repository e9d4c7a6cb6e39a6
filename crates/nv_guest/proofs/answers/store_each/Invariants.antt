use Rattle.std.proofs.Common.{◌≡◌, ◌+◌, drop}
use Rattle.nv_guest.specs.Answers.{with_each_byte}
use Rattle.nv_guest.proofs.answers.store_each.Given as goal

abbrev pub invariant-loop-i : goal.invariant-loop-i
invariant-loop-i l = with_each_byte l.memory (l.address + l.i) (drop l.i l.bytes) ≡ with_each_byte l.initial.memory l.address l.bytes
