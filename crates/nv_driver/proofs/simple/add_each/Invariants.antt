use Rattle.std.proofs.Common.{◌≡◌, take}
use Rattle.clap.specs.Simple.{app_of}
use Rattle.nv_driver.specs.Tables.{rules_by, with_rules}
use Rattle.nv_driver.proofs.simple.add_each.Given as goal

abbrev pub invariant-loop-name : goal.invariant-loop-name
invariant-loop-name l = app_of l.command ≡ with_rules (app_of l.fn.command) (rules_by (take l.name-index l.arguments))
