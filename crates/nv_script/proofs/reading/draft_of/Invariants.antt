use Rattle.std.proofs.Common.{◌≡◌}
use Rattle.nv_script.specs.Scripts.{blank, drafted}
use Rattle.nv_script.proofs.reading.draft_of.Given as goal

-- the lines that are left make of the draft what all make of a blank one
abbrev pub invariant-loop-before : goal.invariant-loop-before
invariant-loop-before l = drafted l.form l.fn.lines.before l.fn.lines.left (blank l.form) ≡ drafted l.form l.before-iterator.before l.before-iterator.left l.draft
