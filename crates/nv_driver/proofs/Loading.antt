-- Versions that were loaded one after another.
use Rattle.std.proofs.Common.{◌≡◌, ◌∙◌, sym, ap, subst, refl, ℕ, zero, suc, ◌+◌, ◌≤◌, List, [], ◌∷◌, ◌++◌, length, take, map, Option, None, Some, option_map, Ok, arith}
use Rattle.std.specs.Prelude.{slice_get}
use Rattle.std.proofs.lemmas.Option.{same_Some}
use Rattle.nv_outside.specs.Told.{Told, MayFail}
use Rattle.nv_bpf.specs.declared.op.Op.{Op}
use Rattle.nv_machine.specs.Guest.{Machine}
use Rattle.nv_threads.specs.Behaviours.{Behaviour}
use Rattle.nv_threads.specs.Threads.{Proc, threads}
use Rattle.nv_replay.specs.Version.{Running, IsFresh, process_of}
use Rattle.nv_replay.specs.Account.{AreFresh}
use Rattle.nv_driver.specs.Account.{process_begun}
use Rattle.nv_driver.specs.Found.{Found, Whole, TooLong, Unread, Agrees, AgreesIf, AllAgree, ScriptAgrees, IsReadOf, IsReadWithin, FILE_LIMIT, TookMore, script_limit, found_of}
use Rattle.nv_driver.specs.Prepared.{Prepared, Unreadable, Refused, Ready, read_at, with_first_machine, version_then, versions_from, judged_by, rules_then, after_rules, after_script, version_from}
use Rattle.nv_driver.specs.Refusals.{ComesTo, Stops, Refuses}
use Rattle.nv_driver.specs.inner.Refusals.{HasLoaded, AreLoaded, IsFault, ReadRefused, VersionRefused, VersionsRefused, VersionsCome, run_parts, RestComes, IsRest, IsFilterRead, HasRules, RulesStop, RulesRefused, RestRefused, IsScriptRefusal, IsFilterRefusal, IsVersionRefusal}
use Rattle.nv_driver.specs.Outcome.{limit_at}
use Rattle.nv_driver.proofs.Decided.{told_agrees}
use Rattle.nv_driver.proofs.Lengths.{took_before, IsAfterScript, versions_after, rules_after}
use Rattle.nv_driver.specs.declared.refusal.Refusal.{Refusal}
use Rattle.nv_driver.specs.declared.refusal.Refusal.TheVariants as refusal
use Rattle.nv_driver.specs.declared.refusal.Place.{Place}
use Rattle.nv_driver.specs.declared.refusal.Place.TheVariants.{Script, Rules, Trace, Version}
use Rattle.nv_driver.specs.declared.refusal.Cause.{Cause}
use Rattle.nv_driver.specs.declared.refusal.Cause.TheVariants as causes
use Rattle.nv_script.specs.Scripts.{Setup, script_of}
use Rattle.nv_driver.specs.Words.{Limits, Parts, Plan}

pub fresh_more : {P : Type 0} (g : Behaviour P) (i n : ℕ) (rs : List (Running P)) (r : Running P) → AreFresh g i rs → n ≡ i + length rs → IsFresh g n r → AreFresh g i (rs ++ r ∷ [])
fresh_more g i n [] r all e h = (subst (λ (z : ℕ). IsFresh g z r) (omega (arith, e)) h, tt)
fresh_more g i n (x ∷ rs) r all e h = (all.0, fresh_more g (i + 1) n rs r all.1 (omega (arith, e)) h)

pub take_next : {X : Type 0} (xs : List X) (k : ℕ) (x : X) → slice_get xs k ≡ Some x → take (k + 1) xs ≡ take k xs ++ x ∷ []
take_next [] k x h = cc
take_next (y ∷ ys) zero x h = ap (λ z. z ∷ []) (same_Some y x h)
take_next (y ∷ ys) (suc k) x h = let e : suc k + 1 ≡ suc (k + 1) = omega arith in subst (λ (n : ℕ). take n (y ∷ ys) ≡ y ∷ (take k ys ++ x ∷ [])) (sym e) (ap (λ z. y ∷ z) (take_next ys k x h))

pub length-prefix : {X : Type 0} (xs : List X) (k : ℕ) → k ≤ length xs → length (take k xs) ≡ k
length-prefix xs zero le = refl
length-prefix [] (suc k) le = absurd (omega arith)
length-prefix (x ∷ xs) (suc k) le = ap suc (length-prefix xs k (omega arith))

pub fresh_next : (vs vs' : List (Running Proc)) (n : ℕ) (v : Running Proc) → vs' ≡ vs ++ v ∷ [] → n ≡ length vs → AreFresh threads 0 vs → IsFresh threads n v → AreFresh threads 0 vs'
fresh_next vs vs' n v longer e all h = subst (λ (xs : List (Running Proc)). AreFresh threads 0 xs) (sym longer) (fresh_more threads 0 n vs v all (omega (arith, e)) h)

-- what is told of files that weren't read
pub all_told : (holds : List ℕ → Told) (names : List (List ℕ)) → AllAgree holds names (map (λ name. found_of (holds name)) names)
all_told holds [] = tt
all_told holds (name ∷ names) = (told_agrees FILE_LIMIT (holds name), all_told holds names)

-- the same of the rules
pub rules_told : (holds : List ℕ → Told) (name : Option (List ℕ)) → AgreesIf holds name (option_map (λ n. found_of (holds n)) name)
rules_told holds None = tt
rules_told holds (Some name) = told_agrees FILE_LIMIT (holds name)

-- after an accepted script the rest decides
pub script_accepted : (holds : List ℕ → Told) (plan : Plan) (bytes : List ℕ) (setup : Setup) (whole : Prepared) → IsReadWithin (script_limit plan.script) bytes (holds plan.script.name)
    → script_of bytes ≡ Ok setup → RestComes setup holds (run_parts plan) whole → ComesTo plan holds whole
script_accepted holds plan bytes setup whole r ok v = record {
  finds = record { script = Whole bytes; rules = v.rules; versions = v.versions };
  agree = record { script = r; rules = v.rules_agree; versions = v.versions_agree };
  is = ap (after_script (λ (s : Setup). after_rules v.rules (versions_from plan.limits s 0 v.versions))) ok ∙ v.is;
}

-- what the rest comes to with these rules
abbrev pub with_rules : Option (List Op) → Prepared → Prepared
with_rules None whole = whole
with_rules (Some ops) whole = judged_by ops whole

-- what rules that were read find, and what they leave of the versions
record RulesGo (holds : List ℕ → Told) (name : Option (List ℕ)) (rules : Option (List Op)) : Type 0 where
  found : Option Found
  agree : AgreesIf holds name found
  is : (rest : Prepared) → after_rules found rest ≡ with_rules rules rest

rules_go : (holds : List ℕ → Told) (name : Option (List ℕ)) (rules : Option (List Op)) → HasRules rules holds name → RulesGo holds name rules
rules_go holds None None h = record { found = None; agree = tt; is = λ rest. refl }
rules_go holds None (Some ops) h = absurd h
rules_go holds (Some name) None h = absurd h
rules_go holds (Some name) (Some ops) h = record { found = Some (Whole h.bytes); agree = h.read; is = λ rest. ap (rules_then rest) h.is }

-- after rules that were read the versions decide
pub rules_accepted : (holds : List ℕ → Told) (parts : Parts) (setup : Setup) (rules : Option (List Op)) (whole : Prepared) → HasRules rules holds parts.rules
    → VersionsCome parts.limits setup holds 0 parts.versions whole → RestComes setup holds parts (with_rules rules whole)
rules_accepted holds parts setup rules whole h v =
    let r = rules_go holds parts.rules rules h in
    record {
      rules = r.found;
      rules_agree = r.agree;
      versions = v.finds;
      versions_agree = v.agree;
      is = r.is (versions_from parts.limits setup 0 v.finds) ∙ ap (with_rules rules) v.is;
    }

-- versions that are ready are so with these rules
pub rules_ready : (holds : List ℕ → Told) (parts : Parts) (setup : Setup) (rules : Option (List Op)) (machines : List Machine) → HasRules rules holds parts.rules
    → VersionsCome parts.limits setup holds 0 parts.versions (Ready setup None machines) → RestComes setup holds parts (Ready setup rules machines)
rules_ready holds parts setup None machines h v = rules_accepted holds parts setup None (Ready setup None machines) h v
rules_ready holds parts setup (Some ops) machines h v = rules_accepted holds parts setup (Some ops) (Ready setup None machines) h v

unreadable_stays : (rules : Option (List Op)) (place : Place) → with_rules rules (Unreadable place) ≡ Unreadable place
unreadable_stays None place = refl
unreadable_stays (Some ops) place = refl

refused_stays : (rules : Option (List Op)) (place : Place) (cause : Cause) → with_rules rules (Refused place cause) ≡ Refused place cause
refused_stays None place cause = refl
refused_stays (Some ops) place cause = refl

-- the rules decide
pub rules_stop : (holds : List ℕ → Told) (parts : Parts) (setup : Setup) (whole : Prepared) → RulesStop holds parts.rules whole → RestComes setup holds parts whole
rules_stop holds parts setup whole s = record {
  rules = s.rules;
  rules_agree = s.agree;
  versions = map (λ name. found_of (holds name)) parts.versions;
  versions_agree = all_told holds parts.versions;
  is = s.is (versions_from parts.limits setup 0 (map (λ name. found_of (holds name)) parts.versions));
}

-- What stops the reading of some files stops that of more, where no read failed before.
pub stops_more : (Comes More : Prepared → Type 0) (refusal : Refusal) (f0 f f' t0 t t' : ℕ) → ((place : Place) → Comes (Unreadable place) → More (Unreadable place))
    → ((place : Place) (cause : Cause) → Comes (Refused place cause) → More (Refused place cause)) → f ≡ f0 → t0 ≤ t → Stops Comes refusal f f' t t' → Stops More refusal f0 f' t0 t'
stops_more Comes More refusal.Memory f0 f f' t0 t t' unread unfit fs ts h = h ∙ fs
stops_more Comes More (refusal.Unreadable place) f0 f f' t0 t t' unread unfit fs ts h = (unread place h.0, omega (arith, fs, h.1))
stops_more Comes More (refusal.Input place cause) f0 f f' t0 t t' unread unfit fs ts h = (unfit place cause h.0, h.1 ∙ fs, λ e. let long = h.2 e in omega (arith, ts, long))

-- rules can't be read
pub rules_unreadable : (refusal : Refusal) (holds : List ℕ → Told) (named : Option (List ℕ)) (name : List ℕ) (f f' t t' : ℕ) → named ≡ Some name
    → ReadRefused refusal Rules FILE_LIMIT (holds name) f f' t t' → RulesRefused refusal holds named f f' t t'
rules_unreadable why holds named name f f' t t' e h = subst (λ (n : Option (List ℕ)). RulesRefused why holds n f f' t t') (sym e) (by why h)
  where
    by : (r : Refusal) → ReadRefused r Rules FILE_LIMIT (holds name) f f' t t' → RulesRefused r holds (Some name) f f' t t'
    by refusal.Memory h = h
    by (refusal.Unreadable place) h = (record { rules = Some Unread; agree = h.2; is = λ rest. ap Unreadable (sym h.0) }, h.1)
    by (refusal.Input place cause) h =
        (record { rules = Some TooLong; agree = h.4; is = λ rest. ap (λ p. Refused p causes.Long) (sym h.0) ∙ ap (Refused place) (sym h.1) }, h.2, λ e. h.3)

-- rules are refused
pub rules_faulty : (refusal : Refusal) (holds : List ℕ → Told) (named : Option (List ℕ)) (name bytes : List ℕ) (f f' t t' : ℕ) → named ≡ Some name
    → f' ≡ f → IsReadOf bytes (holds name) → IsFilterRefusal refusal bytes → RulesRefused refusal holds named f f' t t'
rules_faulty why holds named name bytes f f' t t' e kept r h = subst (λ (n : Option (List ℕ)). RulesRefused why holds n f f' t t') (sym e) (by why h)
  where
    by : (refused : Refusal) → IsFilterRefusal refused bytes → RulesRefused refused holds (Some name) f f' t t'
    by refusal.Memory h = kept
    by (refusal.Unreadable place) h = absurd h
    by (refusal.Input place cause) h = (
      record {
        rules = Some (Whole bytes);
        agree = r;
        is = λ rest. ap (rules_then rest) h.3 ∙ ap (λ p. Refused p (causes.Filter h.1)) (sym h.0) ∙ ap (Refused place) (sym h.2);
      },
      kept,
      λ e. let other : causes.Filter h.1 ≡ causes.Long = sym h.2 ∙ e in cc,
    )

-- rules that are named are read
pub rules_read : (ops : List Op) (holds : List ℕ → Told) (named : Option (List ℕ)) (name : List ℕ) → named ≡ Some name → IsFilterRead ops (holds name) → HasRules (Some ops) holds named
rules_read ops holds named name e h = subst (λ (n : Option (List ℕ)). HasRules (Some ops) holds n) (sym e) h

-- the refusal of the rules is that of the rest
pub rest_by_rules : (refusal : Refusal) (holds : List ℕ → Told) (parts : Parts) (setup : Setup) (f f' t t' : ℕ) → RulesRefused refusal holds parts.rules f f' t t' → RestRefused refusal setup holds parts f f' t t'
rest_by_rules refusal holds parts setup f f' t t' h =
    stops_more (RulesStop holds parts.rules) (RestComes setup holds parts) refusal f f f' t t t' (λ place. rules_stop holds parts setup (Unreadable place))
    (λ place cause. rules_stop holds parts setup (Refused place cause)) refl (omega arith) h

-- after rules that were read the refusal of the versions is that of the rest
pub rest_by_versions : (refusal : Refusal) (holds : List ℕ → Told) (parts : Parts) (setup : Setup) (rules : Option (List Op)) (f0 f f' t0 t t' : ℕ) → HasRules rules holds parts.rules → f ≡ f0 → t0 ≤ t
    → VersionsRefused parts.limits setup refusal holds parts.versions f f' t t' → RestRefused refusal setup holds parts f0 f' t0 t'
rest_by_versions refusal holds parts setup rules f0 f f' t0 t t' r fs ts h =
    stops_more (VersionsCome parts.limits setup holds 0 parts.versions) (RestComes setup holds parts) refusal f0 f f' t0 t t'
    (λ place v. subst (λ (w : Prepared). RestComes setup holds parts w) (unreadable_stays rules place) (rules_accepted holds parts setup rules (Unreadable place) r v))
    (λ place cause v. subst (λ (w : Prepared). RestComes setup holds parts w) (refused_stays rules place cause) (rules_accepted holds parts setup rules (Refused place cause) r v))
    fs ts h

-- the script decides
script_stops : (holds : List ℕ → Told) (plan : Plan) (found : Found) (whole : Prepared) → ScriptAgrees holds plan.script found
    → ((rest : Setup → Prepared) → read_at Script found (λ bytes. after_script rest (script_of bytes)) ≡ whole) → ComesTo plan holds whole
script_stops holds plan found whole agrees stops = record {
  finds = record { script = found; rules = option_map (λ name. found_of (holds name)) plan.rules; versions = map (λ name. found_of (holds name)) plan.versions };
  agree = record { script = agrees; rules = rules_told holds plan.rules; versions = all_told holds plan.versions };
  is = stops (λ s. after_rules (option_map (λ name. found_of (holds name)) plan.rules) (versions_from plan.limits s 0 (map (λ name. found_of (holds name)) plan.versions)));
}

-- a script can't be read
pub script_unread : (refusal : Refusal) (holds : List ℕ → Told) (plan : Plan) (f0 f t0 t : ℕ) → ReadRefused refusal Script (script_limit plan.script) (holds plan.script.name) f0 f t0 t → Refuses refusal holds plan f0 f t0 t
script_unread refusal.Memory holds plan f0 f t0 t h = h
script_unread (refusal.Unreadable place) holds plan f0 f t0 t h =
    (script_stops holds plan Unread (Unreadable place) h.2 (λ rest. ap Unreadable (sym h.0)), h.1)
script_unread (refusal.Input place cause) holds plan f0 f t0 t h =
    (script_stops holds plan TooLong (Refused place cause) h.4 (λ rest. ap (λ p. Refused p causes.Long) (sym h.0) ∙ ap (Refused place) (sym h.1)), h.2, λ e. subst (λ (p : Place). TookMore (limit_at p plan) t0 t) (sym h.0) h.3)

-- a script is refused
pub script_refuses : (refusal : Refusal) (holds : List ℕ → Told) (plan : Plan) (bytes : List ℕ) (f0 f t0 t : ℕ) → IsReadWithin (script_limit plan.script) bytes (holds plan.script.name)
    → f ≡ f0 → IsScriptRefusal refusal bytes → Refuses refusal holds plan f0 f t0 t
script_refuses refusal.Memory holds plan bytes f0 f t0 t r kept h = kept
script_refuses (refusal.Unreadable place) holds plan bytes f0 f t0 t r kept h = absurd h
script_refuses (refusal.Input place cause) holds plan bytes f0 f t0 t r kept h = (
  script_stops holds plan (Whole bytes) (Refused place cause) r
      (λ rest. ap (after_script rest) h.3 ∙ ap (λ p. Refused p (causes.Script h.1)) (sym h.0) ∙ ap (Refused place) (sym h.2)),
  kept,
  λ e. let other : causes.Script h.1 ≡ causes.Long = sym h.2 ∙ e in cc,
)

module _ (limits : Limits) (setup : Setup) where
  pub loaded_more : (vs : List (Running Proc)) (holds : List ℕ → Told) (names : List (List ℕ)) (v : Running Proc) (name : List ℕ)
      → AreLoaded limits setup vs holds names → HasLoaded limits setup v (holds name) → AreLoaded limits setup (vs ++ v ∷ []) holds (names ++ name ∷ [])
  loaded_more [] holds [] v name all h = (h, tt)
  loaded_more [] holds (n ∷ names) v name all h = absurd all
  loaded_more (x ∷ vs) holds [] v name all h = absurd all
  loaded_more (x ∷ vs) holds (n ∷ names) v name all h = (all.0, loaded_more vs holds names v name all.1 h)

  pub length-loaded : (vs : List (Running Proc)) (holds : List ℕ → Told) (names : List (List ℕ)) → AreLoaded limits setup vs holds names → length vs ≡ length names
  length-loaded [] holds [] all = refl
  length-loaded [] holds (n ∷ names) all = absurd all
  length-loaded (v ∷ vs) holds [] all = absurd all
  length-loaded (v ∷ vs) holds (n ∷ names) all = ap suc (length-loaded vs holds names all.1)

  -- a loaded version stands before what the others come to
  loaded_before : (v : Running Proc) (holds : List ℕ → Told) (name : List ℕ) (names : List (List ℕ)) (i : ℕ) (rest : Prepared) (l : HasLoaded limits setup v (holds name))
      → VersionsCome limits setup holds (i + 1) names rest → VersionsCome limits setup holds i (name ∷ names) (with_first_machine l.machine rest)
  loaded_before v holds name names i rest l r = record {
    finds = Whole l.bytes ∷ r.finds;
    agree = (l.read, r.agree);
    is = ap (version_then i (versions_from limits setup (i + 1) r.finds)) l.loads ∙ ap (with_first_machine l.machine) r.is;
  }

  -- what loaded versions come to
  pub record AreReady (vs : List (Running Proc)) (holds : List ℕ → Told) (i : ℕ) (names : List (List ℕ)) : Type 0 where
    pub machines : List Machine
    pub processes : map process_of vs ≡ map (process_begun limits setup) machines
    pub come : VersionsCome limits setup holds i names (Ready setup None machines)

  pub all_ready : (vs : List (Running Proc)) (holds : List ℕ → Told) (names : List (List ℕ)) (i : ℕ) → AreLoaded limits setup vs holds names → AreReady vs holds i names
  all_ready [] holds [] i all = record { machines = []; processes = refl; come = record { finds = []; agree = tt; is = refl } }
  all_ready [] holds (n ∷ names) i all = absurd all
  all_ready (v ∷ vs) holds [] i all = absurd all
  all_ready (v ∷ vs) holds (n ∷ names) i all =
      let l = all.0 in
      let r = all_ready vs holds names (i + 1) all.1 in
      record {
        machines = l.machine ∷ r.machines;
        processes = λ j. l.begins j ∷ r.processes j;
        come = loaded_before v holds n names i (Ready setup None r.machines) l r.come;
      }

  -- what stops at the version after those that were loaded
  stops_next : (vs : List (Running Proc)) (holds : List ℕ → Told) (names : List (List ℕ)) (i k j : ℕ) (name : List ℕ) (found : Found) (whole : Prepared) → j ≡ i + k
      → AreLoaded limits setup vs holds (take k names) → slice_get names k ≡ Some name → Agrees (holds name) found
      → ((rest : Prepared) → read_at (Version j) found (λ bytes. version_then j rest (version_from limits setup bytes)) ≡ whole) → ((machine : Machine) → with_first_machine machine whole ≡ whole)
      → VersionsCome limits setup holds i names whole
  stops_next vs holds [] i k j name found whole is all at agrees stops stays = cc
  stops_next vs holds (n ∷ names) i zero j name found whole is all at agrees stops stays =
      let first : j ≡ i = omega (arith, is) in
      record {
        finds = found ∷ map (λ n. found_of (holds n)) names;
        agree = (subst (λ (x : List ℕ). Agrees (holds x) found) (sym (same_Some n name at)) agrees, all_told holds names);
        is = subst (λ (x : ℕ). read_at (Version x) found (λ bytes. version_then x (versions_from limits setup (i + 1) (map (λ n. found_of (holds n)) names)) (version_from limits setup bytes)) ≡ whole) first
            (stops (versions_from limits setup (i + 1) (map (λ n. found_of (holds n)) names)));
      }
  stops_next [] holds (n ∷ names) i (suc k) j name found whole is all at agrees stops stays = absurd all
  stops_next (v ∷ vs) holds (n ∷ names) i (suc k) j name found whole is all at agrees stops stays =
      let rest = stops_next vs holds names (i + 1) k j name found whole (omega (arith, is)) all.1 at agrees stops stays in
      subst (λ (x : Prepared). VersionsCome limits setup holds i (n ∷ names) x) (stays all.0.machine) (loaded_before v holds n names i whole all.0 rest)

  fault_stops : (found : Found) (j : ℕ) (cause : Cause) → IsFault limits setup found cause → (rest : Prepared)
      → read_at (Version j) found (λ bytes. version_then j rest (version_from limits setup bytes)) ≡ Refused (Version j) cause
  fault_stops (Whole bytes) j cause h rest = ap (version_then j rest) h
  fault_stops TooLong j cause h rest = ap (Refused (Version j)) (sym h)
  fault_stops Unread j cause h rest = absurd h

  -- a version file is faulty
  pub version_faulty : (refusal : Refusal) (place : Place) (told : Told) (bytes : List ℕ) (f f' t t' : ℕ) → f' ≡ f → IsReadOf bytes told → IsVersionRefusal limits setup refusal place bytes
      → VersionRefused limits setup refusal place told f f' t t'
  version_faulty refusal.Memory place told bytes f f' t t' kept r h = kept
  version_faulty (refusal.Unreadable at) place told bytes f f' t t' kept r h = absurd h
  version_faulty (refusal.Input at cause) place told bytes f f' t t' kept r h =
      (h.0, record { found = Whole bytes; agrees = r; fault = h.2 }, kept, λ e. absurd (h.1 e))

  pub versions_refused : (refusal : Refusal) (vs : List (Running Proc)) (holds : List ℕ → Told) (names : List (List ℕ)) (k : ℕ) (name : List ℕ) (told : Told) (f0 f f' t0 t t' : ℕ)
      → AreLoaded limits setup vs holds (take k names) → slice_get names k ≡ Some name → told ≡ holds name → f ≡ f0 → t0 ≤ t
      → VersionRefused limits setup refusal (Version k) told f f' t t' → VersionsRefused limits setup refusal holds names f0 f' t0 t'
  versions_refused refusal.Memory vs holds names k name told f0 f f' t0 t t' all at is fs ts h = h ∙ fs
  versions_refused (refusal.Unreadable place) vs holds names k name told f0 f f' t0 t t' all at is fs ts h = (
    stops_next vs holds names 0 k k name Unread (Unreadable place) (omega arith) all at (subst MayFail is h.2) (λ rest. ap Unreadable (sym h.0)) (λ m. refl),
    omega (arith, fs, h.1),
  )
  versions_refused (refusal.Input place cause) vs holds names k name told f0 f f' t0 t t' all at is fs ts h = (
    stops_next vs holds names 0 k k name h.1.found (Refused place cause) (omega arith) all at (subst (λ (z : Told). Agrees z h.1.found) is h.1.agrees)
        (λ rest. fault_stops h.1.found k cause h.1.fault rest ∙ ap (λ p. Refused p cause) (sym h.0)) (λ m. refl),
    h.2 ∙ fs,
    λ e. let long = h.3 e in omega (arith, ts, long),
  )

  -- one version more is loaded
  pub loaded_next : (vs vs' : List (Running Proc)) (holds : List ℕ → Told) (names : List (List ℕ)) (k : ℕ) (v : Running Proc) (name : List ℕ)
      → vs' ≡ vs ++ v ∷ [] → slice_get names k ≡ Some name → AreLoaded limits setup vs holds (take k names) → HasLoaded limits setup v (holds name) → AreLoaded limits setup vs' holds (take (k + 1) names)
  loaded_next vs vs' holds names k v name longer at all h =
      let both = loaded_more vs holds (take k names) v name all h in
      let next : take k names ++ name ∷ [] ≡ take (k + 1) names = sym (take_next names k name at) in
      subst (λ (xs : List (Running Proc)). AreLoaded limits setup xs holds (take (k + 1) names)) (sym longer) (subst (λ (ns : List (List ℕ)). AreLoaded limits setup (vs ++ v ∷ []) holds ns) next both)

-- files after the script have the usual limit
rest_limit : (holds : List ℕ → Told) (plan : Plan) (setup : Setup) (place : Place) (cause : Cause) → RestComes setup holds (run_parts plan) (Refused place cause) → limit_at place plan ≡ FILE_LIMIT
rest_limit holds plan setup Script cause h = absurd (subst IsAfterScript h.is (rules_after h.rules _ (versions_after plan.limits setup 0 h.versions)))
rest_limit holds plan setup Rules cause h = refl
rest_limit holds plan setup Trace cause h = refl
rest_limit holds plan setup (Version i) cause h = refl

-- after an accepted script the refusal of the rest is that of the run
pub run_refused : (refusal : Refusal) (holds : List ℕ → Told) (plan : Plan) (bytes : List ℕ) (setup : Setup) (f0 f f' t0 t t' : ℕ) → IsReadWithin (script_limit plan.script) bytes (holds plan.script.name)
    → script_of bytes ≡ Ok setup → f ≡ f0 → t0 ≤ t → RestRefused refusal setup holds (run_parts plan) f f' t t' → Refuses refusal holds plan f0 f' t0 t'
run_refused why holds plan bytes setup f0 f f' t0 t t' r ok fs ts h = by why h
  where
    by : (stopped : Refusal) → RestRefused stopped setup holds (run_parts plan) f f' t t' → Refuses stopped holds plan f0 f' t0 t'
    by refusal.Memory h = h ∙ fs
    by (refusal.Unreadable place) h = (script_accepted holds plan bytes setup (Unreadable place) r ok h.0, omega (arith, fs, h.1))
    by (refusal.Input place cause) h = (
      script_accepted holds plan bytes setup (Refused place cause) r ok h.0,
      h.1 ∙ fs,
      λ e. subst (λ (limit : ℕ). TookMore limit t0 t') (sym (rest_limit holds plan setup place cause h.0)) (took_before FILE_LIMIT t0 t t' ts (h.2 e)),
    )

-- what the rest comes to stays, where the source tells the same
pub rest_still : (refusal : Refusal) (setup : Setup) (holds holds' : List ℕ → Told) (parts : Parts) (f f' t t' : ℕ) → holds' ≡ holds → RestRefused refusal setup holds' parts f f' t t'
    → RestRefused refusal setup holds parts f f' t t'
rest_still refusal setup holds holds' parts f f' t t' same h = subst (λ (z : List ℕ → Told). RestRefused refusal setup z parts f f' t t') same h

-- rules and versions that are ready after a script
pub rest_ready : (setup : Setup) (rules : Option (List Op)) (versions : List (Running Proc)) (holds : List ℕ → Told) (parts : Parts) → HasRules rules holds parts.rules
    → AreLoaded parts.limits setup versions holds parts.versions → AreFresh threads 0 versions → length parts.versions ≤ 8 → IsRest setup rules versions holds parts
rest_ready setup rules versions holds parts read loaded fresh few =
    let ready = all_ready parts.limits setup versions holds parts.versions 0 loaded in
    record {
      machines = ready.machines;
      processes = ready.processes;
      comes = rules_ready holds parts setup rules ready.machines read ready.come;
      fresh = fresh;
      few = omega (arith, few, length-loaded parts.limits setup versions holds parts.versions loaded);
    }
