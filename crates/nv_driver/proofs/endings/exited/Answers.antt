use Rattle.std.proofs.Common.{◌∙◌, sym}
use Rattle.nv_replay.specs.Follow.{is_exited}
use Rattle.nv_replay.specs.declared.standing.Standing.{Standing}
use Rattle.nv_replay.specs.Version.{standing_of}
use Rattle.nv_driver.proofs.Statuses.{any-map}
use Rattle.nv_driver.proofs.endings.exited.Goals as goal

pub returns : goal.returns
returns c = c.any_exited.ensures ∙ sym (any-map (λ (line : Standing). is_exited line.fate) standing_of c.args.versions.now)
