use Rattle.std.proofs.Common.{◌≡◌, drop}
use Rattle.nv_guest.specs.Answers.{scattered}
use Rattle.nv_guest.proofs.answers.scatter.Given as goal

abbrev pub invariant-loop-part : goal.invariant-loop-part
invariant-loop-part l = scattered l.memory (drop l.part-index l.targets) l.rest ≡ scattered l.initial.memory l.targets l.bytes
