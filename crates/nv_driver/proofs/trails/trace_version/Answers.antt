use Rattle.std.proofs.Common.{◌≡◌, ◌≤◌, ◌∙◌, ap, subst, refl, ℕ, List, arith}
use Rattle.std.proofs.lemmas.Result.{err_from_is_err_and}
use Rattle.nv_driver.specs.Seen.{trail_view}
use Rattle.nv_outside.specs.Told.{Told}
use Rattle.nv_script.specs.Views.{setup_of}
use Rattle.nv_driver.specs.Found.{FILE_LIMIT, TRACE_LIMIT, script_limit}
use Rattle.nv_driver.specs.inner.Refusals.{HasRules}
use Rattle.nv_driver.specs.Traced.{script_at, log_at, machine_traced}
use Rattle.nv_driver.specs.inner.Trails.{IsFollower}
use Rattle.nv_driver.specs.declared.refusal.Place.TheVariants.{Script, Trace, Version}
use Rattle.nv_driver.proofs.Trailing.{step_stops, rules_stop_it, rules_give, gives_still, script_lacks, rules_lack, log_lacks, version_lacks, all_give}
use Rattle.nv_driver.proofs.trails.trace_version.Goals as goal

pub returns-in_err-script-clause-refused : goal.returns-in_err-script-clause-refused
returns-in_err-script-clause-refused g c =
    let holds = g.F.Files.holds c.args.files.now in
    let trail = trail_view c.args.trail.now in
    let same : g.F.Files.taken c.args.files.now ≤ g.F.Files.taken c.args.files.now = omega arith in
    let p = err_from_is_err_and c.from_residual.result c.from_residual.ensures.1 in
    rw (p.1, p.2) (step_stops _ trail holds Script (script_limit trail.script) script_at (holds trail.script.name) (holds trail.script.name) _ _ _ _ _ _ refl refl refl same (script_lacks trail holds) c.in_err-script.ensures.refused)

pub returns-in_err-rules-clause-refused : goal.returns-in_err-rules-clause-refused
returns-in_err-rules-clause-refused g c =
    let holds = g.F.Files.holds c.args.files.now in
    let trail = trail_view c.args.trail.now in
    let setup = setup_of c.in_ok-script.script in
    let before : g.F.Files.holds c.read_script.new.files ≡ holds = λ j name. c.in_ok-script.ensures.same name j in
    let p = err_from_is_err_and c.from_residual-in_err-rules.result c.from_residual-in_err-rules.ensures.1 in
    rw (p.1, p.2) (rules_stop_it _ trail holds (g.F.Files.holds c.read_script.new.files) _ _ _ _ _ _ before c.in_ok-script.ensures.faults c.in_ok-script.ensures.taken
    (rules_lack trail holds setup c.in_ok-script.ensures.script) c.in_err-rules.ensures.refused)

pub returns-in_err-kernel-clause-refused : goal.returns-in_err-kernel-clause-refused
returns-in_err-kernel-clause-refused g c =
    let holds = g.F.Files.holds c.args.files.now in
    let trail = trail_view c.args.trail.now in
    let setup = setup_of c.in_ok-script.script in
    let before : g.F.Files.holds c.read_script.new.files ≡ holds = λ j name. c.in_ok-script.ensures.same name j in
    let same : g.F.Files.holds c.read_rules.new.files ≡ holds = λ j name. (c.in_ok-rules.ensures.same name ∙ c.in_ok-script.ensures.same name) j in
    let rules = rules_give holds trail.rules c.in_ok-rules.rules (subst (λ (h : List ℕ → Told). HasRules c.in_ok-rules.rules h trail.rules) before c.in_ok-rules.ensures.rules) in
    let faults = c.in_ok-rules.ensures.faults ∙ c.in_ok-script.ensures.faults in
    let taken : g.F.Files.taken c.args.files.now ≤ g.F.Files.taken c.read_rules.new.files = omega (arith, c.in_ok-script.ensures.taken, c.in_ok-rules.ensures.taken) in
    let p = err_from_is_err_and c.from_residual-in_err-kernel.result c.from_residual-in_err-kernel.ensures.1 in
    rw (p.1, p.2) (step_stops _ trail holds Trace TRACE_LIMIT (log_at setup) (holds trail.trace) (g.F.Files.holds c.read_rules.new.files trail.trace) _ _ _ _ _ _ refl (ap (λ (h : List ℕ → Told). h trail.trace) same) faults taken
    (log_lacks trail holds setup c.in_ok-script.ensures.script c.in_ok-rules.rules rules) c.in_err-kernel.ensures.refused)

pub returns-in_err-version-clause-refused : goal.returns-in_err-version-clause-refused
returns-in_err-version-clause-refused g c =
    let holds = g.F.Files.holds c.args.files.now in
    let trail = trail_view c.args.trail.now in
    let setup = setup_of c.in_ok-script.script in
    let before : g.F.Files.holds c.read_script.new.files ≡ holds = λ j name. c.in_ok-script.ensures.same name j in
    let same : g.F.Files.holds c.read_rules.new.files ≡ holds = λ j name. (c.in_ok-rules.ensures.same name ∙ c.in_ok-script.ensures.same name) j in
    let still : g.F.Files.holds c.read_log.new.files ≡ holds = λ j name. (c.in_ok-kernel.ensures.same name ∙ c.in_ok-rules.ensures.same name ∙ c.in_ok-script.ensures.same name) j in
    let rules = rules_give holds trail.rules c.in_ok-rules.rules (subst (λ (h : List ℕ → Told). HasRules c.in_ok-rules.rules h trail.rules) before c.in_ok-rules.ensures.rules) in
    let trace = gives_still (log_at setup) TRACE_LIMIT (holds trail.trace) _ _ (ap (λ (h : List ℕ → Told). h trail.trace) same) c.in_ok-kernel.ensures.log in
    let faults = c.in_ok-kernel.ensures.faults ∙ c.in_ok-rules.ensures.faults ∙ c.in_ok-script.ensures.faults in
    let taken : g.F.Files.taken c.args.files.now ≤ g.F.Files.taken c.read_log.new.files = omega (arith, c.in_ok-script.ensures.taken, c.in_ok-rules.ensures.taken, c.in_ok-kernel.ensures.taken) in
    let p = err_from_is_err_and c.from_residual-in_err-version.result c.from_residual-in_err-version.ensures.1 in
    rw (p.1, p.2) (step_stops _ trail holds (Version trail.index) FILE_LIMIT (machine_traced trail setup) (holds trail.version) (g.F.Files.holds c.read_log.new.files trail.version) _ _ _ _ _ _ refl (ap (λ (h : List ℕ → Told). h trail.version) still) faults taken
    (version_lacks trail holds setup c.in_ok-script.ensures.script c.in_ok-rules.rules rules c.in_ok-kernel.kernel.log trace) c.in_err-version.ensures.refused)

pub returns-clause-ready : goal.returns-clause-ready
returns-clause-ready g c =
    let holds = g.F.Files.holds c.args.files.now in
    let trail = trail_view c.args.trail.now in
    let setup = setup_of c.in_ok-script.script in
    let before : g.F.Files.holds c.read_script.new.files ≡ holds = λ j name. c.in_ok-script.ensures.same name j in
    let same : g.F.Files.holds c.read_rules.new.files ≡ holds = λ j name. (c.in_ok-rules.ensures.same name ∙ c.in_ok-script.ensures.same name) j in
    let still : g.F.Files.holds c.read_log.new.files ≡ holds = λ j name. (c.in_ok-kernel.ensures.same name ∙ c.in_ok-rules.ensures.same name ∙ c.in_ok-script.ensures.same name) j in
    let rules = rules_give holds trail.rules c.in_ok-rules.rules (subst (λ (h : List ℕ → Told). HasRules c.in_ok-rules.rules h trail.rules) before c.in_ok-rules.ensures.rules) in
    let trace = gives_still (log_at setup) TRACE_LIMIT (holds trail.trace) _ _ (ap (λ (h : List ℕ → Told). h trail.trace) same) c.in_ok-kernel.ensures.log in
    let follower = subst (λ (told : Told). IsFollower trail c.args.budget c.args.renews setup c.in_ok-version.version told) (ap (λ (h : List ℕ → Told). h trail.version) still) c.in_ok-version.ensures.version in
    record {
      machine = follower.machine;
      comes = all_give trail holds setup c.in_ok-script.ensures.script c.in_ok-rules.rules rules c.in_ok-kernel.kernel.log trace follower.machine follower.gives;
      begins = follower.begins;
      fresh = follower.fresh;
      settled = follower.settled;
      sound = c.in_ok-kernel.ensures.sound;
    }
