use Rattle.std.proofs.Common.{◌≡◌, subst, ℕ, List, arith}
use Rattle.std.proofs.lemmas.List.{length-map}
use Rattle.nv_outside.specs.Told.{Told}
use Rattle.std.specs.Borrow.{Bor}
use Rattle.nv_driver.specs.Seen.{limits_view, names_view, rules_view}
use Rattle.nv_script.specs.Views.{setup_of}
use Rattle.nv_driver.specs.inner.Refusals.{parts_with, AreLoaded, VersionsRefused}
use Rattle.nv_driver.proofs.Loading.{rest_ready, rest_by_rules, rest_by_versions}
use Rattle.nv_driver.proofs.preparing.read_rest.Goals as goal

pub returns-in-Ok-read_versions-clause-ready : goal.returns-in-Ok-read_versions-clause-ready
returns-in-Ok-read_versions-clause-ready g c =
    let holds = g.F.Files.holds c.args.files.now in
    let limits = limits_view c.args.limits in
    let setup = setup_of c.args.script.now in
    let names = names_view c.args.names.now in
    let versions = c.in-Ok-read_versions.versions.items in
    let same : g.F.Files.holds c.read_rules.new.files ≡ holds = λ j name. c.read_rules.ensures.same name j in
    let loaded = subst (λ (h : List ℕ → Told). AreLoaded limits setup versions h names) same c.in-Ok-read_versions.ensures.loaded in
    rest_ready setup c.in-Ok.rules versions holds (parts_with limits (rules_view c.args.rules_name) names) c.in-Ok.ensures.rules loaded c.in-Ok-read_versions.ensures.fresh
    (omega (arith, c.requires, length-map c.args.names.now (λ (name : Bor (List ℕ)). name.now)))

pub returns-in-Err-read_versions-clause-refused : goal.returns-in-Err-read_versions-clause-refused
returns-in-Err-read_versions-clause-refused g c =
    let holds = g.F.Files.holds c.args.files.now in
    let limits = limits_view c.args.limits in
    let setup = setup_of c.args.script.now in
    let names = names_view c.args.names.now in
    let same : g.F.Files.holds c.read_rules.new.files ≡ holds = λ j name. c.read_rules.ensures.same name j in
    let refused = subst (λ (h : List ℕ → Told). VersionsRefused limits setup c.in-Err-read_versions.refusal h names
    (g.F.Files.faults c.read_rules.new.files) (g.F.Files.faults c.read_versions.new.files) (g.F.Files.taken c.read_rules.new.files) (g.F.Files.taken c.read_versions.new.files)) same c.in-Err-read_versions.ensures.refused in
    rest_by_versions c.in-Err-read_versions.refusal holds (parts_with limits (rules_view c.args.rules_name) names) setup c.in-Ok.rules _ _ _ _ _ _
    c.in-Ok.ensures.rules c.in-Ok.ensures.faults c.read_rules.ensures.taken refused

pub returns-in-Err-clause-refused : goal.returns-in-Err-clause-refused
returns-in-Err-clause-refused g c =
    rest_by_rules c.in-Err.refusal (g.F.Files.holds c.args.files.now) (parts_with (limits_view c.args.limits) (rules_view c.args.rules_name) (names_view c.args.names.now)) (setup_of c.args.script.now)
    _ _ _ _ c.in-Err.ensures.refused
