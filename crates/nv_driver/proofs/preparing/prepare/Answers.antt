use denote.Exit.{no}
use denote.Param.Send.{param_send, arg_send}
use Rattle.std.proofs.Common.{◌≡◌, ◌∙◌, sym, ap, subst, ℕ, List, Ok}
use Rattle.std.proofs.lemmas.Result.{err_from_is_err_and}
use Rattle.nv_outside.specs.Told.{Told}
use Rattle.std.specs.Borrow.{Bor}
use Rattle.nv_driver.specs.Seen.{names_view, script_view, plan_view}
use Rattle.nv_script.specs.Scripts.{Setup, script_of}
use Rattle.nv_script.specs.Views.{setup_of}
use Rattle.nv_driver.specs.Found.{IsReadWithin, script_limit}
use Rattle.nv_driver.specs.Prepared.{Ready}
use Rattle.nv_driver.specs.Refusals.{IsPrepared}
use Rattle.nv_driver.specs.inner.Refusals.{parts_with, run_parts, IsRest, RestRefused}
use Rattle.nv_driver.proofs.Loading.{script_unread, script_refuses, script_accepted, run_refused}
use Rattle.nv_driver.proofs.Planned.{planned_by}
use Rattle.nv_arriving.proofs.Sending.{listed_send}
use Rattle.nv_driver.proofs.preparing.prepare.Goals as goal

pub make-requires-send-A : goal.make-requires-send-A
make-requires-send-A g c κs = param_send 0 _ (arg_send _ no _ listed_send)

pub returns-in-Ok-read_rest-clause-ready : goal.returns-in-Ok-read_rest-clause-ready
returns-in-Ok-read_rest-clause-ready g c =
    let holds = g.F.Files.holds c.args.files.now in
    let plan = plan_view c.args.plan.now in
    let setup = setup_of c.in-Ok.script in
    let rules = c.in-Ok-read_rest.rest.rules in
    let versions = c.in-Ok-read_rest.rest.versions.items in
    let kernel = c.in_ok-kernel-in-Ok-read_rest.kernel in
    let before : g.F.Files.holds c.script_bytes.new.files ≡ holds = λ j name. c.in_ok-bytes.ensures.same name j in
    let here = subst (λ (ns : List (Bor (List ℕ))). IsRest setup rules versions (g.F.Files.holds c.script_bytes.new.files) (parts_with plan.limits plan.rules (names_view ns))) c.deref-2.ensures.value c.in-Ok-read_rest.ensures.ready in
    let ready = subst (λ (h : List ℕ → Told). IsRest setup rules versions h (run_parts plan)) before here in
    let accepted : script_of c.in_ok-bytes.bytes.items ≡ Ok setup = ap script_of (sym c.deref.ensures.value) ∙ c.in-Ok.ensures.script in
    let is = c.in_ok-kernel-in-Ok-read_rest.ensures in
    subst (λ (s : Setup). IsPrepared kernel.log s rules versions holds plan) (sym is.1)
    (record {
      empty = is.0;
      machines = ready.machines;
      processes = ready.processes;
      comes = script_accepted holds plan c.in_ok-bytes.bytes.items setup (Ready setup rules ready.machines) c.in_ok-bytes.ensures.bytes accepted ready.comes;
      fresh = ready.fresh;
      few = ready.few;
    })

pub returns-clause-refused : goal.returns-clause-refused
returns-clause-refused g c =
    let holds = g.F.Files.holds c.args.files.now in
    let plan = plan_view c.args.plan.now in
    let setup = setup_of c.in-Ok.script in
    let refusal = c.in-Err-read_rest.refusal in
    let before : g.F.Files.holds c.script_bytes.new.files ≡ holds = λ j name. c.in_ok-bytes.ensures.same name j in
    let accepted : script_of c.in_ok-bytes.bytes.items ≡ Ok setup = ap script_of (sym c.deref.ensures.value) ∙ c.in-Ok.ensures.script in
    let here = subst (λ (ns : List (Bor (List ℕ))). RestRefused refusal setup (g.F.Files.holds c.script_bytes.new.files) (parts_with plan.limits plan.rules (names_view ns))
    (g.F.Files.faults c.script_bytes.new.files) (g.F.Files.faults c.read_rest.new.files) (g.F.Files.taken c.script_bytes.new.files) (g.F.Files.taken c.read_rest.new.files)) c.deref-2.ensures.value c.in-Err-read_rest.ensures.refused in
    run_refused refusal holds plan c.in_ok-bytes.bytes.items setup _ _ _ _ _ _
    c.in_ok-bytes.ensures.bytes accepted c.in_ok-bytes.ensures.faults c.in_ok-bytes.ensures.taken
    (subst (λ (h : List ℕ → Told). RestRefused refusal setup h (run_parts plan)
    (g.F.Files.faults c.script_bytes.new.files) (g.F.Files.faults c.read_rest.new.files) (g.F.Files.taken c.script_bytes.new.files) (g.F.Files.taken c.read_rest.new.files)) before here)

pub returns-in_err-bytes-clause-refused : goal.returns-in_err-bytes-clause-refused
returns-in_err-bytes-clause-refused g c =
    let p = err_from_is_err_and c.from_residual.result c.from_residual.ensures.1 in
    rw (p.1, p.2) (script_unread _ (g.F.Files.holds c.args.files.now) (plan_view c.args.plan.now) _ _ _ _ c.in_err-bytes.ensures.refused)

pub returns-in-Err-clause-refused : goal.returns-in-Err-clause-refused
returns-in-Err-clause-refused g c =
    let holds = g.F.Files.holds c.args.files.now in
    let script = script_view c.args.plan.now.script in
    let read = subst (λ (bytes : List ℕ). IsReadWithin (script_limit script) bytes (holds script.name)) (sym c.deref.ensures.value) c.in_ok-bytes.ensures.bytes in
    script_refuses c.in-Err.refusal holds (plan_view c.args.plan.now) c.deref.result.now _ _ _ _ read c.in_ok-bytes.ensures.faults c.in-Err.ensures.refused

pub returns-in-Ok-read_rest-clause-planned : goal.returns-in-Ok-read_rest-clause-planned
returns-in-Ok-read_rest-clause-planned g c =
    planned_by c.in_ok-kernel-in-Ok-read_rest.kernel.setup (setup_of c.in-Ok.script) c.in_ok-kernel-in-Ok-read_rest.ensures.1 c.in-Ok.ensures.sound
