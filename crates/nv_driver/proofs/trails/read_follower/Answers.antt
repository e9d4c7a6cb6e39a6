use Rattle.std.proofs.Common.{◌∙◌, ap, subst, sym, refl, List, ℕ}
use Rattle.std.proofs.lemmas.Result.{err_from_is_err_and}
use Rattle.nv_driver.specs.Seen.{limits_view, trail_view}
use Rattle.nv_driver.specs.Words.{Limits}
use Rattle.nv_guest.specs.Guest.{machine_of}
use Rattle.nv_script.specs.Views.{setup_of}
use Rattle.nv_driver.specs.Found.{Whole, IsReadOf, FILE_LIMIT}
use Rattle.nv_driver.specs.Prepared.{version_from}
use Rattle.nv_driver.specs.Traced.{machine_traced, traced_version}
use Rattle.nv_driver.specs.declared.refusal.Place.TheVariants.{Version}
use Rattle.nv_driver.proofs.Trailing.{read_refuses, version_refuses}
use Rattle.nv_driver.proofs.trails.read_follower.Goals as goal

pub returns-in_err-bytes-clause-refused : goal.returns-in_err-bytes-clause-refused
returns-in_err-bytes-clause-refused g c =
    let p = err_from_is_err_and c.from_residual.result c.from_residual.ensures.1 in
    rw (p.1, p.2) (read_refuses _ (Version c.args.trail.now.index) FILE_LIMIT (machine_traced (trail_view c.args.trail.now) (setup_of c.args.script.now)) (g.F.Files.holds c.args.files.now c.args.trail.now.version.now)
    _ _ _ _ refl refl c.in_err-bytes.ensures.refused)

pub returns-in_err-guest-clause-refused : goal.returns-in_err-guest-clause-refused
returns-in_err-guest-clause-refused g c =
    let trail = trail_view c.args.trail.now in
    let setup = setup_of c.args.script.now in
    let told = g.F.Files.holds c.args.files.now c.args.trail.now.version.now in
    let read : IsReadOf c.deref.result.now told = subst (λ (bytes : List ℕ). IsReadOf bytes told) (sym c.deref.ensures.value) c.in_ok-bytes.ensures.bytes in
    let p = err_from_is_err_and c.from_residual-in_err-guest.result c.from_residual-in_err-guest.ensures.1 in
    rw (p.1, p.2)
    (version_refuses _ trail (limits_view c.limits.result) setup told c.deref.result.now _ _ _ _ c.limits.ensures read c.in_ok-bytes.ensures.faults c.in_err-guest.ensures.refused)

pub returns-clause-version : goal.returns-clause-version
returns-clause-version g c =
    let trail = trail_view c.args.trail.now in
    let setup = setup_of c.args.script.now in
    let told = g.F.Files.holds c.args.files.now c.args.trail.now.version.now in
    let read : IsReadOf c.deref.result.now told = subst (λ (bytes : List ℕ). IsReadOf bytes told) (sym c.deref.ensures.value) c.in_ok-bytes.ensures.bytes in
    record {
      machine = machine_of c.in_ok-guest.guest;
      gives = record {
        found = Whole c.deref.result.now;
        agrees = read;
        is = ap (traced_version c.args.trail.now.index) (ap (λ (limits : Limits). version_from limits setup c.deref.result.now) (sym c.limits.ensures) ∙ c.in_ok-guest.ensures.guest);
      };
      begins = c.in_ok-version.ensures.process;
      fresh = c.in_ok-version.ensures.fresh;
      settled = c.in_ok-version.ensures.eager;
    }
