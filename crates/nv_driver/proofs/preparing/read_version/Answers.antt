use Rattle.std.proofs.Common.{◌∙◌, ap, subst, sym, List, ℕ}
use Rattle.std.proofs.lemmas.Result.{err_from_is_err_and}
use Rattle.nv_guest.specs.Guest.{machine_of}
use Rattle.nv_driver.specs.Seen.{limits_view}
use Rattle.nv_script.specs.Views.{setup_of}
use Rattle.nv_driver.specs.Found.{IsReadOf}
use Rattle.nv_driver.specs.Prepared.{version_from}
use Rattle.nv_driver.specs.declared.refusal.Place.TheVariants.{Version}
use Rattle.nv_driver.proofs.Loading.{version_faulty}
use Rattle.nv_driver.proofs.preparing.read_version.Goals as goal

pub returns-clause-version : goal.returns-clause-version
returns-clause-version g c = record {
  bytes = c.in_ok-bytes.bytes.items;
  read = c.in_ok-bytes.ensures.bytes;
  machine = machine_of c.in_ok-guest.guest;
  begins = c.in_ok-version.ensures.process;
  loads = ap (version_from (limits_view c.args.limits) (setup_of c.args.script.now)) (sym c.deref.ensures.value) ∙ c.in_ok-guest.ensures.guest;
}

pub returns-in_err-guest-clause-refused : goal.returns-in_err-guest-clause-refused
returns-in_err-guest-clause-refused g c =
    let told = g.F.Files.holds c.args.files.now c.args.name.now in
    let read : IsReadOf c.deref.result.now told = subst (λ (bytes : List ℕ). IsReadOf bytes told) (sym c.deref.ensures.value) c.in_ok-bytes.ensures.bytes in
    let p = err_from_is_err_and c.from_residual-in_err-guest.result c.from_residual-in_err-guest.ensures.1 in
    rw (p.1, p.2) (version_faulty (limits_view c.args.limits) (setup_of c.args.script.now) _ (Version c.args.index) told c.deref.result.now _ _ _ _ c.in_ok-bytes.ensures.faults read c.in_err-guest.ensures.refused)
