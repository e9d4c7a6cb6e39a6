use Rattle.std.proofs.Common.{◌≡◌, ◌∙◌, sym, ap, subst, refl, ℕ, List, Ok}
use Rattle.std.proofs.lemmas.Result.{err_from_is_err_and}
use Rattle.nv_outside.specs.Told.{Told}
use Rattle.std.specs.Borrow.{Bor}
use Rattle.nv_driver.specs.Seen.{names_view, service_view}
use Rattle.nv_script.specs.Views.{setup_of}
use Rattle.nv_driver.specs.Found.{Whole}
use Rattle.nv_driver.specs.Prepared.{Ready}
use Rattle.nv_driver.specs.Live.{AgreesOrBare, live_script}
use Rattle.nv_driver.specs.inner.Refusals.{parts_with, live_parts, IsRest, RestRefused}
use Rattle.nv_driver.proofs.Loading.{rest_still}
use Rattle.nv_driver.proofs.LiveLoading.{live_unread, live_script_refuses, live_script_accepted, live_refused}
use Rattle.nv_driver.proofs.Planned.{planned_by}
use Rattle.nv_driver.proofs.live.prepare_live.Goals as goal

pub returns-in_err-bytes-clause-refused : goal.returns-in_err-bytes-clause-refused
returns-in_err-bytes-clause-refused g c =
    let p = err_from_is_err_and c.from_residual.result c.from_residual.ensures.1 in
    rw (p.1, p.2) (live_unread _ (g.F.Files.holds c.args.files.now) (service_view c.args.service.now) _ _ _ _ c.in_err-bytes.ensures.refused)

pub returns-in_err-live-clause-refused : goal.returns-in_err-live-clause-refused
returns-in_err-live-clause-refused g c =
    let holds = g.F.Files.holds c.args.files.now in
    let service = service_view c.args.service.now in
    let read = subst (λ (bytes : List ℕ). AgreesOrBare holds service.script (Whole bytes)) (sym c.deref.ensures.value) c.in_ok-bytes.ensures.bytes in
    let p = err_from_is_err_and c.from_residual-in_err-live.result c.from_residual-in_err-live.ensures.1 in
    rw (p.1, p.2) (live_script_refuses _ holds service c.deref.result.now _ _ _ _ read c.in_ok-bytes.ensures.faults c.in_err-live.ensures.refused)

pub returns-in_err-rest-clause-refused : goal.returns-in_err-rest-clause-refused
returns-in_err-rest-clause-refused g c =
    let holds = g.F.Files.holds c.args.files.now in
    let service = service_view c.args.service.now in
    let setup = setup_of c.in_ok-live.live.script in
    let before : g.F.Files.holds c.script_text.new.files ≡ holds = λ j name. c.in_ok-bytes.ensures.same name j in
    let accepted : live_script c.in_ok-bytes.bytes.items ≡ Ok setup = ap live_script (sym c.deref.ensures.value) ∙ c.in_ok-live.ensures.script.live in
    let p = err_from_is_err_and c.from_residual-in_err-rest.result c.from_residual-in_err-rest.ensures.1 in
    let here = subst (λ (ns : List (Bor (List ℕ))). RestRefused c.in_err-rest.field-0.0 setup (g.F.Files.holds c.script_text.new.files) (parts_with service.limits service.rules (names_view ns))
    (g.F.Files.faults c.script_text.new.files) (g.F.Files.faults c.read_rest.new.files) (g.F.Files.taken c.script_text.new.files) (g.F.Files.taken c.read_rest.new.files)) c.deref-2.ensures.value c.in_err-rest.ensures.refused in
    rw (p.1, p.2) (live_refused _ holds service c.in_ok-bytes.bytes.items setup _ _ _ _ _ _ c.in_ok-bytes.ensures.bytes accepted c.in_ok-bytes.ensures.faults c.in_ok-bytes.ensures.taken
    (rest_still _ setup holds (g.F.Files.holds c.script_text.new.files) (live_parts service) _ _ _ _ before here))

pub returns-clause-ready : goal.returns-clause-ready
returns-clause-ready g c =
    let holds = g.F.Files.holds c.args.files.now in
    let service = service_view c.args.service.now in
    let setup = setup_of c.in_ok-live.live.script in
    let rules = c.in_ok-rest.rest.rules in
    let versions = c.in_ok-rest.rest.versions.items in
    let script = c.in_ok-live.ensures.script in
    let before : g.F.Files.holds c.script_text.new.files ≡ holds = λ j name. c.in_ok-bytes.ensures.same name j in
    let accepted : live_script c.in_ok-bytes.bytes.items ≡ Ok setup = ap live_script (sym c.deref.ensures.value) ∙ script.live in
    let here = subst (λ (ns : List (Bor (List ℕ))). IsRest setup rules versions (g.F.Files.holds c.script_text.new.files) (parts_with service.limits service.rules (names_view ns))) c.deref-2.ensures.value c.in_ok-rest.ensures.ready in
    let ready = subst (λ (h : List ℕ → Told). IsRest setup rules versions h (live_parts service)) before here in
    record {
      machines = ready.machines;
      processes = ready.processes;
      comes = live_script_accepted holds service c.in_ok-bytes.bytes.items setup (Ready setup rules ready.machines) c.in_ok-bytes.ensures.bytes accepted ready.comes;
      fresh = ready.fresh;
      few = ready.few;
      begins = script.begins;
      none = script.none;
    }

pub returns-clause-planned : goal.returns-clause-planned
returns-clause-planned g c = planned_by (setup_of c.in_ok-live.live.script) (setup_of c.in_ok-live.live.script) refl c.in_ok-live.ensures.sound
