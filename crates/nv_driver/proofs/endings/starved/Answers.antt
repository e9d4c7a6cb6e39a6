use Rattle.std.proofs.Common.{◌∙◌, sym}
use Rattle.nv_replay.specs.Lead.{is_memory}
use Rattle.nv_replay.specs.declared.standing.Standing.{Standing}
use Rattle.nv_replay.specs.Version.{standing_of}
use Rattle.nv_driver.proofs.Statuses.{any-map}
use Rattle.nv_driver.proofs.endings.starved.Goals as goal

pub returns : goal.returns
returns c = c.any_wanted_memory.ensures ∙ sym (any-map (λ (line : Standing). is_memory line.fate) standing_of c.args.versions.now)
