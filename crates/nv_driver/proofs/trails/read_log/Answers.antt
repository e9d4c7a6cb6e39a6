use Rattle.std.proofs.Common.{ap, subst, sym, refl, List, ℕ}
use Rattle.std.proofs.lemmas.Result.{err_from_is_err_and, IfOk-weaker, IfErr-weaker}
use Rattle.nv_script.specs.Views.{setup_of}
use Rattle.nv_driver.specs.Found.{Whole, IsReadWithin, TRACE_LIMIT}
use Rattle.nv_driver.specs.Traced.{log_at, of_trace}
use Rattle.nv_driver.specs.declared.refusal.Place.TheVariants.{Trace}
use Rattle.nv_driver.proofs.Trailing.{read_refuses, trace_refuses}
use Rattle.nv_driver.proofs.trails.read_log.Goals as goal

pub returns-in_err-bytes-clause-refused : goal.returns-in_err-bytes-clause-refused
returns-in_err-bytes-clause-refused g c =
    let p = err_from_is_err_and c.from_residual.result c.from_residual.ensures.1 in
    rw (p.1, p.2) (read_refuses _ Trace TRACE_LIMIT (log_at (setup_of c.args.script.now)) (g.F.Files.holds c.args.files.now c.args.name.now) _ _ _ _ refl refl c.in_err-bytes.ensures.refused)

pub returns-clause-log : goal.returns-clause-log
returns-clause-log g c =
    let told = g.F.Files.holds c.args.files.now c.args.name.now in
    let read : IsReadWithin TRACE_LIMIT c.deref.result.now told = subst (λ (bytes : List ℕ). IsReadWithin TRACE_LIMIT bytes told) (sym c.deref.ensures.value) c.in_ok-bytes.ensures.bytes in
    IfOk-weaker c.kernel_in.result _ _ (λ kernel h. record { found = Whole c.deref.result.now; agrees = read; is = ap of_trace h }) c.kernel_in.ensures.log

pub returns-clause-refused : goal.returns-clause-refused
returns-clause-refused g c =
    let told = g.F.Files.holds c.args.files.now c.args.name.now in
    let read : IsReadWithin TRACE_LIMIT c.deref.result.now told = subst (λ (bytes : List ℕ). IsReadWithin TRACE_LIMIT bytes told) (sym c.deref.ensures.value) c.in_ok-bytes.ensures.bytes in
    IfErr-weaker c.kernel_in.result _ _ (λ refusal h. trace_refuses refusal (setup_of c.args.script.now) told c.deref.result.now _ _ _ _ read c.in_ok-bytes.ensures.faults h) c.kernel_in.ensures.refused
