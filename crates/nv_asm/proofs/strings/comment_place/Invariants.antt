use Rattle.std.proofs.Common.{◌≡◌, ◌+◌, drop}
use Rattle.nv_asm.specs.declared.strings.Where.TheVariants.{Outside}
use Rattle.nv_asm.specs.Strings.{comment_place}
use Rattle.nv_asm.proofs.strings.comment_place.Given as goal

abbrev pub invariant-loop-i : goal.invariant-loop-i
invariant-loop-i l = comment_place Outside l.line ≡ l.i + comment_place l.place (drop l.i l.line)
