use Rattle.std.proofs.Common.{◌≡◌, ◌++◌, false, option_map, drop}
use Rattle.nv_asm.specs.Strings.{quoted}
use Rattle.nv_asm.proofs.strings.quoted.Given as goal

abbrev pub invariant-loop-i : goal.invariant-loop-i
invariant-loop-i l = option_map (λ more. l.bytes.items ++ more) (quoted l.escaped (drop l.i l.text)) ≡ quoted false l.text
