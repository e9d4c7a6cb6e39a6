use Rattle.std.proofs.Common.{◌≡◌, ◌∙◌, subst, ℕ, List, length, take, arith}
use Rattle.std.proofs.lemmas.List.{length-map}
use Rattle.nv_outside.specs.Told.{Told}
use Rattle.std.specs.Borrow.{Bor}
use Rattle.nv_driver.specs.Seen.{limits_view, names_view}
use Rattle.nv_script.specs.Views.{setup_of}
use Rattle.nv_driver.specs.inner.Refusals.{HasLoaded}
use Rattle.nv_driver.proofs.Loading.{versions_refused, loaded_next, fresh_next, length-prefix, length-loaded}
use Rattle.nv_driver.proofs.preparing.read_versions.Goals as goal

pub returns-in-Err-clause-refused : goal.returns-in-Err-clause-refused
returns-in-Err-clause-refused g c =
    let limits = limits_view c.args.limits in
    let setup = setup_of c.args.script.now in
    let names = names_view c.args.names.now in
    versions_refused limits setup c.in-Err.refusal c.loop-index.versions.items (g.F.Files.holds c.args.files.now) names c.loop-index.index c.name_at-name.result.now
    _ _ _ _ _ _ _ c.loop-index.invariant.0 c.name_at-name.ensures
    (c.loop-index.invariant.2 c.name_at-name.result.now)
    c.loop-index.invariant.3 c.loop-index.invariant.4 c.in-Err.ensures.refused

pub loop-index-preserved : goal.loop-index-preserved
loop-index-preserved g c =
    let holds = g.F.Files.holds c.args.files.now in
    let limits = limits_view c.args.limits in
    let setup = setup_of c.args.script.now in
    let names = names_view c.args.names.now in
    let told : g.F.Files.holds c.loop-index.files c.name_at-name.result.now ≡ holds c.name_at-name.result.now
    = c.loop-index.invariant.2 c.name_at-name.result.now in
    let loaded = subst (λ (z : Told). HasLoaded limits setup c.in-Ok.version z) told c.in-Ok.ensures.version in
    let size : length names ≡ length c.args.names.now = length-map c.args.names.now (λ (name : Bor (List ℕ)). name.now) in
    let prefix : length (take c.loop-index.index names) ≡ c.loop-index.index = length-prefix names c.loop-index.index (omega (arith, size, c.loop-index-test.true)) in
    let count : c.loop-index.index ≡ length c.loop-index.versions.items = omega (arith, prefix, length-loaded limits setup c.loop-index.versions.items holds (take c.loop-index.index names) c.loop-index.invariant.0) in (
      loaded_next limits setup c.loop-index.versions.items c.push.new.self.items holds names c.loop-index.index c.in-Ok.version c.name_at-name.result.now c.in_ok-push-in-Ok.ensures.items c.name_at-name.ensures c.loop-index.invariant.0 loaded,
      fresh_next c.loop-index.versions.items c.push.new.self.items c.loop-index.index c.in-Ok.version c.in_ok-push-in-Ok.ensures.items count c.loop-index.invariant.1 c.in-Ok.ensures.fresh,
      λ name. c.in-Ok.ensures.same name ∙ c.loop-index.invariant.2 name,
      c.in-Ok.ensures.faults ∙ c.loop-index.invariant.3,
      omega (arith, c.loop-index.invariant.4, c.in-Ok.ensures.taken),
    )
