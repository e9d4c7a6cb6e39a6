use Rattle.std.proofs.Common.{ap, subst, sym, refl, List, ℕ}
use Rattle.std.proofs.lemmas.Result.{err_from_is_err_and, IfOk-weaker, IfErr-weaker}
use Rattle.nv_driver.specs.Seen.{script_view}
use Rattle.nv_driver.specs.Found.{Whole, IsReadWithin, script_limit}
use Rattle.nv_driver.specs.Traced.{script_at, of_script}
use Rattle.nv_driver.specs.declared.refusal.Place.TheVariants.{Script}
use Rattle.nv_driver.proofs.Trailing.{read_refuses, script_refuses}
use Rattle.nv_driver.proofs.trails.read_script.Goals as goal

pub returns-in_err-bytes-clause-refused : goal.returns-in_err-bytes-clause-refused
returns-in_err-bytes-clause-refused g c =
    let p = err_from_is_err_and c.from_residual.result c.from_residual.ensures.1 in
    rw (p.1, p.2) (read_refuses _ Script (script_limit (script_view c.args.file)) script_at (g.F.Files.holds c.args.files.now c.args.file.name.now) _ _ _ _ refl refl c.in_err-bytes.ensures.refused)

pub returns-clause-script : goal.returns-clause-script
returns-clause-script g c =
    let told = g.F.Files.holds c.args.files.now c.args.file.name.now in
    let limit = script_limit (script_view c.args.file) in
    let read : IsReadWithin limit c.deref.result.now told = subst (λ (bytes : List ℕ). IsReadWithin limit bytes told) (sym c.deref.ensures.value) c.in_ok-bytes.ensures.bytes in
    IfOk-weaker c.script_in.result _ _ (λ script h. record { found = Whole c.deref.result.now; agrees = read; is = ap of_script h }) c.script_in.ensures.script

pub returns-clause-refused : goal.returns-clause-refused
returns-clause-refused g c =
    let told = g.F.Files.holds c.args.files.now c.args.file.name.now in
    let limit = script_limit (script_view c.args.file) in
    let read : IsReadWithin limit c.deref.result.now told = subst (λ (bytes : List ℕ). IsReadWithin limit bytes told) (sym c.deref.ensures.value) c.in_ok-bytes.ensures.bytes in
    IfErr-weaker c.script_in.result _ _ (λ refusal h. script_refuses refusal limit told c.deref.result.now _ _ _ _ read c.in_ok-bytes.ensures.faults h) c.script_in.ensures.refused
