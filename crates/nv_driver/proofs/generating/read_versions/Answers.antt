use Rattle.std.proofs.Common.{◌≡◌, subst, List, ℕ, length, take, arith}
use Rattle.nv_gen.specs.Texts.{bare}
use Rattle.nv_driver.specs.inner.Generated.{IsFrom}
use Rattle.nv_driver.proofs.Loaded.{made_next, length-made}
use Rattle.nv_driver.proofs.Loading.{fresh_next, length-prefix}
use Rattle.nv_driver.proofs.generating.read_versions.Goals as goal

pub loop-index-preserved : goal.loop-index-preserved
loop-index-preserved c =
    let files = c.args.files.now in
    let k = c.loop-index.index in
    let file = c.index-files-index.result in
    let version = c.in-Ok.version in
    let old = c.loop-index.versions.items in
    let from = subst (λ (bytes : List ℕ). IsFrom bare bytes version) c.deref.ensures.value c.in-Ok.ensures.version in
    let prefix : length (take k files) ≡ k = length-prefix files k (omega arith) in
    let count : k ≡ length old = omega (arith, prefix, length-made bare (take k files) old c.loop-index.invariant.0) in (
      made_next bare files old c.push.new.self.items k file version c.in_ok-push-in-Ok.ensures.items c.loop-index-test.true c.index-files-index.is c.loop-index.invariant.0 from,
      fresh_next old c.push.new.self.items k version c.in_ok-push-in-Ok.ensures.items count c.loop-index.invariant.1 c.in-Ok.ensures.fresh,
    )
