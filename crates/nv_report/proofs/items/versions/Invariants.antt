use Rattle.std.proofs.Common.{◌≡◌, map, take}
use Rattle.serde_json.specs.View.{view}
use Rattle.nv_replay.specs.Version.{standing_of}
use Rattle.nv_report.specs.Json.{version_value}
use Rattle.nv_report.proofs.items.versions.Given as goal

abbrev pub invariant-loop-version : goal.invariant-loop-version
invariant-loop-version l = map view l.items.items ≡ map (λ version. version_value (standing_of version)) (take l.version-index l.versions)
