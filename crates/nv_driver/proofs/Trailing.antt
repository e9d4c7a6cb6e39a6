-- The files of a version that follows a trace, one after another.
use Rattle.std.proofs.Common.{◌≡◌, ◌∙◌, ◌⊎◌, ⊎_elim, sym, ap, subst, refl, ℕ, ◌≤◌, List, Option, None, Some, option_map, Result, Ok, Err, arith}
use Rattle.nv_outside.specs.Told.{Told}
use Rattle.nv_bpf.specs.declared.op.Op.{Op}
use Rattle.nv_bpf.specs.declared.op.FilterFault.{FilterFault}
use Rattle.nv_bpf.specs.Texts.{filter_of}
use Rattle.nv_calls.specs.Calls.{Entry}
use Rattle.nv_machine.specs.Guest.{Machine}
use Rattle.nv_driver.specs.Words.{Limits, Trail}
use Rattle.nv_script.specs.Scripts.{Setup}
use Rattle.nv_calls.specs.Logs.{Start}
use Rattle.nv_arriving.specs.Scripted.{start_from}
use Rattle.nv_trace.specs.declared.fault.TraceFault.{TraceFault}
use Rattle.nv_trace.specs.declared.fault.TraceFault.TheVariants.{Memory as TraceMemory}
use Rattle.nv_trace.specs.declared.fault.CheckFault.{CheckFault}
use Rattle.nv_trace.specs.declared.fault.CheckFault.TheVariants as checks
use Rattle.nv_trace.specs.Trace.{IsRead}
use Rattle.nv_trace.specs.Held.{log_in}
use Rattle.nv_trace.specs.Faults.{trace_fault, IsFirstFault as IsNoTrace}
use Rattle.nv_trace.specs.Checks.{check_fault, AreSoundEvents, StopsFor}
use Rattle.nv_trace.proofs.Whole.{trace_faultless, trace_log}
use Rattle.nv_trace.proofs.Sound.{faultless_is}
use Rattle.nv_driver.specs.Found.{Found, Whole, TooLong, Unread, AgreesIf, AgreesWithin, IsReadOf, IsReadWithin, FILE_LIMIT, TRACE_LIMIT, TookMore, script_limit, found_of, found_within}
use Rattle.nv_driver.specs.Prepared.{Prepared, after_rules, judged_by, rules_then, VersionOf, Faulty, Loads, version_from}
use Rattle.nv_driver.specs.Prepared as prepared
use Rattle.nv_driver.specs.Outcome.{limit_on}
use Rattle.nv_driver.specs.inner.Refusals.{ReadRefused, HasRules, RulesRefused, IsScriptRefusal, IsVersionRefusal}
use Rattle.nv_driver.specs.Traced.{Traced, TraceFinds, Lack, Unreadable, Refused, then_with, of_script, script_at, traced_rules, rules_at, of_trace, log_at, unless_unsound, log_unless_faulty, trace_of_file, traced_version, machine_traced, trail_limits, after_log, after_filter, after_setup}
use Rattle.nv_driver.specs.Untraced.{IsByTrace, IsByCheck}
use Rattle.nv_driver.specs.inner.Trails.{Gives, StepRefused, IsTraceRefusal, TrailComes, TrailRefused}
use Rattle.nv_driver.specs.declared.refusal.Place.{Place}
use Rattle.nv_driver.specs.declared.refusal.Place.TheVariants.{Script, Rules, Trace, Version}
use Rattle.nv_driver.specs.declared.refusal.Cause.{Cause}
use Rattle.nv_driver.specs.declared.refusal.Cause.TheVariants as causes
use Rattle.nv_driver.specs.declared.refusal.Refusal.{Refusal}
use Rattle.nv_driver.specs.declared.refusal.Refusal.TheVariants as refusal
use Rattle.nv_driver.proofs.Decided.{told_agrees}
use Rattle.nv_driver.proofs.Lengths.{took_before}
use Rattle.nv_driver.proofs.Loading.{rules_told}

-- ---- one file

-- a file that can't be read or is too long gives nothing
pub read_refuses : {X : Type 0} (why : Refusal) (place : Place) (limit : ℕ) (step : Found → Result X Lack) (told : Told) (f f' t t' : ℕ) → step Unread ≡ Err (Unreadable place) → step TooLong ≡ Err (Refused place causes.Long)
    → ReadRefused why place limit told f f' t t' → StepRefused why place limit step told f f' t t'
read_refuses refusal.Memory place limit step told f f' t t' unread long h = h
read_refuses (refusal.Unreadable at) place limit step told f f' t t' unread long h =
    (record { found = Unread; agrees = h.2; is = unread ∙ ap (λ (p : Place). Err (Unreadable p)) (sym h.0) }, h.1)
read_refuses (refusal.Input at cause) place limit step told f f' t t' unread long h =
    (h.0, record { found = TooLong; agrees = h.4; is = long ∙ ap (λ (p : Place). Err (Refused p causes.Long)) (sym h.0) ∙ ap (λ (z : Cause). Err (Refused at z)) (sym h.1) }, h.2, λ e. h.3)

-- a script is refused
pub script_refuses : (why : Refusal) (limit : ℕ) (told : Told) (bytes : List ℕ) (f f' t t' : ℕ) → IsReadWithin limit bytes told → f' ≡ f → IsScriptRefusal why bytes → StepRefused why Script limit script_at told f f' t t'
script_refuses refusal.Memory limit told bytes f f' t t' r kept h = kept
script_refuses (refusal.Unreadable at) limit told bytes f f' t t' r kept h = absurd h
script_refuses (refusal.Input at cause) limit told bytes f f' t t' r kept h = (
  h.0,
  record { found = Whole bytes; agrees = r; is = ap of_script h.3 ∙ ap (λ (p : Place). Err (Refused p (causes.Script h.1))) (sym h.0) ∙ ap (λ (z : Cause). Err (Refused at z)) (sym h.2) },
  kept,
  λ e. let other : causes.Script h.1 ≡ causes.Long = sym h.2 ∙ e in cc,
)

-- a trace is refused
pub trace_refuses : (why : Refusal) (setup : Setup) (told : Told) (bytes : List ℕ) (f f' t t' : ℕ) → IsReadWithin TRACE_LIMIT bytes told → f' ≡ f → IsTraceRefusal why setup bytes
    → StepRefused why Trace TRACE_LIMIT (log_at setup) told f f' t t'
trace_refuses refusal.Memory setup told bytes f f' t t' r kept h = kept
trace_refuses (refusal.Unreadable at) setup told bytes f f' t t' r kept h = absurd h
trace_refuses (refusal.Input at cause) setup told bytes f f' t t' r kept h = (
  h.0,
  record { found = Whole bytes; agrees = r; is = ap of_trace h.2 ∙ ap (λ (p : Place). Err (Refused p cause)) (sym h.0) },
  kept,
  λ e. absurd (h.1 e),
)

-- a version is refused
pub version_refuses : (why : Refusal) (trail : Trail) (limits : Limits) (setup : Setup) (told : Told) (bytes : List ℕ) (f f' t t' : ℕ) → limits ≡ trail_limits trail → IsReadOf bytes told → f' ≡ f
    → IsVersionRefusal limits setup why (Version trail.index) bytes → StepRefused why (Version trail.index) FILE_LIMIT (machine_traced trail setup) told f f' t t'
version_refuses refusal.Memory trail limits setup told bytes f f' t t' same r kept h = kept
version_refuses (refusal.Unreadable at) trail limits setup told bytes f f' t t' same r kept h = absurd h
version_refuses (refusal.Input at cause) trail limits setup told bytes f f' t t' same r kept h = (
  h.0,
  record { found = Whole bytes; agrees = r; is = ap (λ (l : Limits). traced_version trail.index (version_from l setup bytes)) (sym same) ∙ ap (traced_version trail.index) h.2 ∙ ap (λ (p : Place). Err (Refused p cause)) (sym h.0) },
  kept,
  λ e. absurd (h.1 e),
)

-- ---- the rules

-- what rules that may not be named give
pub record RulesGive (holds : List ℕ → Told) (name : Option (List ℕ)) (given : Result (Option (List Op)) Lack) : Type 0 where
  pub found : Option Found
  pub agrees : AgreesIf holds name found
  pub is : rules_at found ≡ given

pub rules_give : (holds : List ℕ → Told) (name : Option (List ℕ)) (rules : Option (List Op)) → HasRules rules holds name → RulesGive holds name (Ok rules)
rules_give holds None None h = record { found = None; agrees = tt; is = refl }
rules_give holds None (Some ops) h = absurd h
rules_give holds (Some name) None h = absurd h
rules_give holds (Some name) (Some ops) h = record { found = Some (Whole h.bytes); agrees = h.read; is = ap traced_rules h.is }

filter_unread : (r : Result (List Op) FilterFault) (place : Place) → rules_then (prepared.Refused Script causes.Long) r ≡ prepared.Unreadable place → traced_rules r ≡ Err (Unreadable place)
filter_unread (Ok ops) place h = cc
filter_unread (Err fault) place h = cc

stop_unread : (found : Option Found) (place : Place) → after_rules found (prepared.Refused Script causes.Long) ≡ prepared.Unreadable place → rules_at found ≡ Err (Unreadable place)
stop_unread None place h = cc
stop_unread (Some (Whole bytes)) place h = filter_unread (filter_of 4096 bytes) place h
stop_unread (Some TooLong) place h = cc
stop_unread (Some Unread) place h = cc

-- the rules that stop, and their place
filter_refused : (r : Result (List Op) FilterFault) (place : Place) (cause : Cause) → rules_then (prepared.Unreadable Script) r ≡ prepared.Refused place cause → (traced_rules r ≡ Err (Refused place cause)) × (place ≡ Rules)
filter_refused (Ok ops) place cause h = (cc, cc)
filter_refused (Err fault) place cause h = (cc, cc)

stop_refused : (found : Option Found) (place : Place) (cause : Cause) → after_rules found (prepared.Unreadable Script) ≡ prepared.Refused place cause → (rules_at found ≡ Err (Refused place cause)) × (place ≡ Rules)
stop_refused None place cause h = (cc, cc)
stop_refused (Some (Whole bytes)) place cause h = filter_refused (filter_of 4096 bytes) place cause h
stop_refused (Some TooLong) place cause h = (cc, cc)
stop_refused (Some Unread) place cause h = (cc, cc)

-- ---- the files together

module _ (trail : Trail) (holds : List ℕ → Told) where
  -- what is told of the files that come last
  abbrev trace_told : Found
  trace_told = found_within TRACE_LIMIT (holds trail.trace)

  abbrev version_told : Found
  version_told = found_of (holds trail.version)

  -- the script decides
  pub script_lacks : (lack : Lack) → Gives script_at (script_limit trail.script) (holds trail.script.name) (Err lack) → TrailComes trail holds (Err lack)
  script_lacks lack g =
      let finds : TraceFinds = record { script = g.found; rules = option_map (λ name. found_of (holds name)) trail.rules; trace = trace_told; version = version_told } in
      record { finds = finds; agree = record { script = g.agrees; rules = rules_told holds trail.rules; trace = told_agrees TRACE_LIMIT (holds trail.trace); version = told_agrees FILE_LIMIT (holds trail.version) }; is = ap (then_with (after_setup trail finds)) g.is }

  module _ (setup : Setup) (script : Gives script_at (script_limit trail.script) (holds trail.script.name) (Ok setup)) where
    -- the rules decide
    pub rules_lack : (lack : Lack) → RulesGive holds trail.rules (Err lack) → TrailComes trail holds (Err lack)
    rules_lack lack r =
        let finds : TraceFinds = record { script = script.found; rules = r.found; trace = trace_told; version = version_told } in
        record {
          finds = finds;
          agree = record { script = script.agrees; rules = r.agrees; trace = told_agrees TRACE_LIMIT (holds trail.trace); version = told_agrees FILE_LIMIT (holds trail.version) };
          is = ap (then_with (after_setup trail finds)) script.is ∙ ap (then_with (after_filter trail trace_told version_told setup)) r.is;
        }

    module _ (filter : Option (List Op)) (rules : RulesGive holds trail.rules (Ok filter)) where
      -- the trace decides
      pub log_lacks : (lack : Lack) → Gives (log_at setup) TRACE_LIMIT (holds trail.trace) (Err lack) → TrailComes trail holds (Err lack)
      log_lacks lack g =
          let finds : TraceFinds = record { script = script.found; rules = rules.found; trace = g.found; version = version_told } in
          record {
            finds = finds;
            agree = record { script = script.agrees; rules = rules.agrees; trace = g.agrees; version = told_agrees FILE_LIMIT (holds trail.version) };
            is = ap (then_with (after_setup trail finds)) script.is ∙ ap (then_with (after_filter trail g.found version_told setup)) rules.is ∙ ap (then_with (after_log trail version_told setup filter)) g.is;
          }

      module _ (log : List Entry) (trace : Gives (log_at setup) TRACE_LIMIT (holds trail.trace) (Ok log)) where
        abbrev with_machine : Machine → Result Traced Lack
        with_machine machine = Ok (record { setup = setup; rules = filter; log = log; machine = machine })

        version_decides : (given : Result Machine Lack) → Gives (machine_traced trail setup) FILE_LIMIT (holds trail.version) given → TrailComes trail holds (then_with with_machine given)
        version_decides given g =
            let finds : TraceFinds = record { script = script.found; rules = rules.found; trace = trace.found; version = g.found } in
            record {
              finds = finds;
              agree = record { script = script.agrees; rules = rules.agrees; trace = trace.agrees; version = g.agrees };
              is = ap (then_with (after_setup trail finds)) script.is ∙ ap (then_with (after_filter trail trace.found g.found setup)) rules.is
                  ∙ ap (then_with (after_log trail g.found setup filter)) trace.is ∙ ap (then_with with_machine) g.is;
            }

        -- the version decides
        pub version_lacks : (lack : Lack) → Gives (machine_traced trail setup) FILE_LIMIT (holds trail.version) (Err lack) → TrailComes trail holds (Err lack)
        version_lacks lack g = version_decides (Err lack) g

        -- all files give what they are read for
        pub all_give : (machine : Machine) → Gives (machine_traced trail setup) FILE_LIMIT (holds trail.version) (Ok machine)
            → TrailComes trail holds (Ok (record { setup = setup; rules = filter; log = log; machine = machine }))
        all_give machine g = version_decides (Ok machine) g

-- what the source tells of a name stays
pub gives_still : {X : Type 0} (step : Found → Result X Lack) (limit : ℕ) (told told' : Told) (given : Result X Lack) → told' ≡ told → Gives step limit told' given → Gives step limit told given
gives_still step limit told told' given same g = record { found = g.found; agrees = subst (λ (z : Told). AgreesWithin limit z g.found) same g.agrees; is = g.is }

-- a file that gives nothing stops the reading
pub step_stops : {X : Type 0} (why : Refusal) (trail : Trail) (holds : List ℕ → Told) (place : Place) (limit : ℕ) (step : Found → Result X Lack) (told told' : Told) (f0 f f' t0 t t' : ℕ) → limit_on place trail ≡ limit
    → told' ≡ told → f ≡ f0 → t0 ≤ t → ((lack : Lack) → Gives step limit told (Err lack) → TrailComes trail holds (Err lack)) → StepRefused why place limit step told' f f' t t' → TrailRefused why trail holds f0 f' t0 t'
step_stops refusal.Memory trail holds place limit step told told' f0 f f' t0 t t' most same fs ts comes h = h ∙ fs
step_stops (refusal.Unreadable at) trail holds place limit step told told' f0 f f' t0 t t' most same fs ts comes h =
    (comes (Unreadable at) (gives_still step limit told told' _ same h.0), omega (arith, fs, h.1))
step_stops (refusal.Input at cause) trail holds place limit step told told' f0 f f' t0 t t' most same fs ts comes h = (
  comes (Refused at cause) (gives_still step limit told told' _ same h.1),
  h.2 ∙ fs,
  λ e. subst (λ (p : Place). TookMore (limit_on p trail) t0 t') (sym h.0) (subst (λ (n : ℕ). TookMore n t0 t') (sym most) (took_before limit t0 t t' ts (h.3 e))),
)

rules_stop_here : (why : Refusal) (trail : Trail) (holds : List ℕ → Told) (f0 f f' t0 t t' : ℕ) → f ≡ f0 → t0 ≤ t
    → ((lack : Lack) → RulesGive holds trail.rules (Err lack) → TrailComes trail holds (Err lack)) → RulesRefused why holds trail.rules f f' t t' → TrailRefused why trail holds f0 f' t0 t'
rules_stop_here refusal.Memory trail holds f0 f f' t0 t t' fs ts comes h = h ∙ fs
rules_stop_here (refusal.Unreadable at) trail holds f0 f f' t0 t t' fs ts comes h =
    let stop = h.0 in
    (comes (Unreadable at) (record { found = stop.rules; agrees = stop.agree; is = stop_unread stop.rules at (stop.is (prepared.Refused Script causes.Long)) }), omega (arith, fs, h.1))
rules_stop_here (refusal.Input at cause) trail holds f0 f f' t0 t t' fs ts comes h =
    let stop = h.0 in
    let is = stop_refused stop.rules at cause (stop.is (prepared.Unreadable Script)) in (
      comes (Refused at cause) (record { found = stop.rules; agrees = stop.agree; is = is.0 }),
      h.1 ∙ fs,
      λ e. subst (λ (p : Place). TookMore (limit_on p trail) t0 t') (sym is.1) (took_before FILE_LIMIT t0 t t' ts (h.2 e)),
    )

-- rules that give nothing stop the reading
pub rules_stop_it : (why : Refusal) (trail : Trail) (holds holds' : List ℕ → Told) (f0 f f' t0 t t' : ℕ) → holds' ≡ holds → f ≡ f0 → t0 ≤ t
    → ((lack : Lack) → RulesGive holds trail.rules (Err lack) → TrailComes trail holds (Err lack)) → RulesRefused why holds' trail.rules f f' t t' → TrailRefused why trail holds f0 f' t0 t'
rules_stop_it why trail holds holds' f0 f f' t0 t t' same fs ts comes h =
    rules_stop_here why trail holds f0 f f' t0 t t' fs ts comes (subst (λ (z : List ℕ → Told). RulesRefused why z trail.rules f f' t t') same h)

-- ---- what a trace is

trace_by : (setup : Setup) (bytes : List ℕ) (o : Option TraceFault) (log : List Entry) (p : Option CheckFault) → trace_fault bytes ≡ o → log_in bytes ≡ log → check_fault (start_from setup) log ≡ p
    → trace_of_file setup bytes ≡ log_unless_faulty (unless_unsound log p) o
unfolding trace_of_file
trace_by setup bytes o log p fault is unsound =
    ap (λ (f : Option TraceFault). log_unless_faulty (unless_unsound (log_in bytes) (check_fault (start_from setup) (log_in bytes))) f) fault
    ∙ ap (λ (l : List Entry). log_unless_faulty (unless_unsound l (check_fault (start_from setup) l)) o) is
    ∙ ap (λ (f : Option CheckFault). log_unless_faulty (unless_unsound log f) o) unsound

-- the trace of a log that the kernel comes to
pub trace_given : (setup : Setup) (bytes : List ℕ) (log kept : List Entry) → IsRead log bytes → AreSoundEvents (start_from setup) log → kept ≡ log → trace_of_file setup bytes ≡ Ok kept
trace_given setup bytes log kept read sound same =
    trace_by setup bytes None log None (trace_faultless log bytes read.trace) (trace_log log bytes read.trace) (faultless_is (start_from setup) log sound) ∙ ap Ok (sym same)

-- bytes that are no trace are refused
pub trace_refused : (setup : Setup) (bytes : List ℕ) (fault : TraceFault) (why : Refusal) → IsByTrace fault why → (fault ≡ TraceMemory) ⊎ IsNoTrace bytes fault → IsTraceRefusal why setup bytes
trace_refused setup bytes fault refusal.Memory by h = tt
trace_refused setup bytes fault (refusal.Unreadable place) by h = by
trace_refused setup bytes fault (refusal.Input place cause) by h = (
  by.0,
  λ e. let other : causes.Trace fault ≡ causes.Long = sym by.1 ∙ e in cc,
  ⊎_elim (λ (e : fault ≡ TraceMemory). absurd (by.2 e))
      (λ (r : IsNoTrace bytes fault). trace_by setup bytes (Some fault) (log_in bytes) (check_fault (start_from setup) (log_in bytes)) r.first refl refl) h
      ∙ ap (λ (z : Cause). Err z) (sym by.1),
)

-- the first fault of events that the kernel doesn't come to
stops_first : (start : Start) (events : List Entry) (fault : CheckFault) (log : List Entry) → (fault ≡ checks.Memory → ⊥) → StopsFor start events fault log → check_fault start events ≡ Some fault
stops_first start events checks.Memory log other h = absurd (other refl)
stops_first start events fault log other h = h.first

-- so is the trace of a log that the kernel doesn't come to
pub check_refused : (setup : Setup) (bytes : List ℕ) (start : Start) (events log : List Entry) (fault : CheckFault) (why : Refusal) → IsByCheck fault why → IsRead events bytes → start ≡ start_from setup
    → StopsFor start events fault log → IsTraceRefusal why setup bytes
check_refused setup bytes start events log fault refusal.Memory by read same h = tt
check_refused setup bytes start events log fault (refusal.Unreadable place) by read same h = by
check_refused setup bytes start events log fault (refusal.Input place cause) by read same h = (
  by.0,
  λ e. let other : causes.Check fault ≡ causes.Long = sym by.1 ∙ e in cc,
  trace_by setup bytes None events (Some fault) (trace_faultless events bytes read.trace) (trace_log events bytes read.trace)
      (ap (λ (s : Start). check_fault s events) (sym same) ∙ stops_first start events fault log by.2 h) ∙ ap (λ (z : Cause). Err z) (sym by.1),
)
