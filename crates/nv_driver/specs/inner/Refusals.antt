-- How the files of a run are read, and why a run doesn't start.
use Rattle.std.specs.Prelude.{◌≡◌, ◌≢◌, ◌≤◌, ℕ, List, [], ◌∷◌, Option, None, Some, Ok, Err, length, map}
use Rattle.nv_outside.specs.Counts.{Rose}
use Rattle.nv_outside.specs.Told.{Told, MayFail}
use Rattle.nv_driver.specs.Words.{Limits, Parts, Plan, Service}
use Rattle.nv_script.specs.Scripts.{Setup, script_of}
use Rattle.nv_script.specs.Transcripts.{IsTranscript}
use Rattle.nv_script.specs.declared.fault.ScriptFault.{ScriptFault}
use Rattle.nv_bpf.specs.declared.op.Op.{Op}
use Rattle.nv_bpf.specs.declared.op.FilterFault.{FilterFault}
use Rattle.nv_bpf.specs.Texts.{filter_of}
use Rattle.nv_machine.specs.Guest.{Machine}
use Rattle.nv_threads.specs.Threads.{Proc, threads}
use Rattle.nv_replay.specs.Version.{Running, process_of}
use Rattle.nv_replay.specs.Account.{AreFresh}
use Rattle.nv_driver.specs.Account.{process_begun}
use Rattle.nv_driver.specs.Found.{Found, Whole, TooLong, Unread, Agrees, AgreesIf, AllAgree, IsReadOf, IsLongerThan, TookLong, TookMore}
use Rattle.nv_driver.specs.Live.{AgreesOrBare, live_script}
use Rattle.nv_driver.specs.Prepared.{Prepared, Ready, Faulty, Loads, read_at, after_rules, version_from, versions_from}
use Rattle.nv_driver.specs.Refusals.{Stops}
use Rattle.nv_driver.specs.declared.refusal.Place.{Place}
use Rattle.nv_driver.specs.declared.refusal.Place.TheVariants.{Script, Rules}
use Rattle.nv_driver.specs.declared.refusal.Cause.{Cause}
use Rattle.nv_driver.specs.declared.refusal.Cause.TheVariants.{Long}
use Rattle.nv_driver.specs.declared.refusal.Cause.TheVariants as causes
use Rattle.nv_driver.specs.declared.refusal.Refusal.{Refusal}
use Rattle.nv_driver.specs.declared.refusal.Refusal.TheVariants as refusal

-- a file couldn't be read: for want of memory, or the count of faults rose and its content isn't told, or it is too long
abbrev pub ReadRefused : Refusal → Place → ℕ → Told → ℕ → ℕ → ℕ → ℕ → Type 0
ReadRefused refusal.Memory place limit told before now taken later = now ≡ before
ReadRefused (refusal.Unreadable at_place) place limit told before now taken later = (at_place ≡ place) × Rose before now × MayFail told
ReadRefused (refusal.Input at_place cause) place limit told before now taken later =
    (at_place ≡ place) × (cause ≡ Long) × (now ≡ before) × TookMore limit taken later × IsLongerThan limit told

-- a script is refused, or memory is wanted
abbrev pub IsScriptRefusal : Refusal → List ℕ → Type 0
IsScriptRefusal refusal.Memory bytes = Unit {0}
IsScriptRefusal (refusal.Unreadable place) bytes = ⊥
IsScriptRefusal (refusal.Input place cause) bytes = (place ≡ Script) × (fault : ScriptFault) × (cause ≡ causes.Script fault) × (script_of bytes ≡ Err fault)

-- a file of rules is refused, or memory is wanted
abbrev pub IsFilterRefusal : Refusal → List ℕ → Type 0
IsFilterRefusal refusal.Memory bytes = Unit {0}
IsFilterRefusal (refusal.Unreadable place) bytes = ⊥
IsFilterRefusal (refusal.Input place cause) bytes = (place ≡ Rules) × (fault : FilterFault) × (cause ≡ causes.Filter fault) × (filter_of 4096 bytes ≡ Err fault)

-- a version file is refused, or memory is wanted
abbrev pub IsVersionRefusal : Limits → Setup → Refusal → Place → List ℕ → Type 0
IsVersionRefusal limits setup refusal.Memory place bytes = Unit {0}
IsVersionRefusal limits setup (refusal.Unreadable at_place) place bytes = ⊥
IsVersionRefusal limits setup (refusal.Input at_place cause) place bytes = (at_place ≡ place) × (cause ≢ Long) × (version_from limits setup bytes ≡ Faulty cause)

-- the same of the versions from number i on
pub record VersionsCome (limits : Limits) (setup : Setup) (holds : List ℕ → Told) (i : ℕ) (names : List (List ℕ)) (whole : Prepared) : Type 0 where
  pub finds : List Found
  pub agree : AllAgree holds names finds
  pub is : versions_from limits setup i finds ≡ whole

-- what is read after a script, with these limits
abbrev pub parts_with : Limits → Option (List ℕ) → List (List ℕ) → Parts
parts_with limits rules versions = record { rules = rules; versions = versions; limits = limits }

abbrev pub run_parts : Plan → Parts
run_parts plan = parts_with plan.limits plan.rules plan.versions

abbrev pub live_parts : Service → Parts
live_parts service = parts_with service.limits service.rules service.versions

-- the same of the rules and the versions after a script
pub record RestComes (setup : Setup) (holds : List ℕ → Told) (parts : Parts) (whole : Prepared) : Type 0 where
  pub rules : Option Found
  pub rules_agree : AgreesIf holds parts.rules rules
  pub versions : List Found
  pub versions_agree : AllAgree holds parts.versions versions
  pub is : after_rules rules (versions_from parts.limits setup 0 versions) ≡ whole

-- rules, and versions that are ready to run, to which the files after a script come
pub record IsRest (setup : Setup) (rules : Option (List Op)) (versions : List (Running Proc)) (holds : List ℕ → Told) (parts : Parts) : Type 0 where
  pub machines : List Machine
  pub processes : map process_of versions ≡ map (process_begun parts.limits setup) machines
  pub comes : RestComes setup holds parts (Ready setup rules machines)
  pub fresh : AreFresh threads 0 versions
  pub few : length versions ≤ 8

-- the filter is that of the bytes that were read
pub record IsFilterRead (ops : List Op) (told : Told) : Type 0 where
  pub bytes : List ℕ
  pub read : IsReadOf bytes told
  pub is : filter_of 4096 bytes ≡ Ok ops

-- there is a filter exactly where rules are named
abbrev pub HasRules : Option (List Op) → (List ℕ → Told) → Option (List ℕ) → Type 0
HasRules None holds None = Unit {0}
HasRules (Some ops) holds None = ⊥
HasRules None holds (Some name) = ⊥
HasRules (Some ops) holds (Some name) = IsFilterRead ops (holds name)

-- the rules decide, whatever the versions come to
pub record RulesStop (holds : List ℕ → Told) (name : Option (List ℕ)) (whole : Prepared) : Type 0 where
  pub rules : Option Found
  pub agree : AgreesIf holds name rules
  pub is : (rest : Prepared) → after_rules rules rest ≡ whole

-- the rules can't be read or are refused, or memory is wanted
abbrev pub RulesRefused : Refusal → (List ℕ → Told) → Option (List ℕ) → ℕ → ℕ → ℕ → ℕ → Type 0
RulesRefused refusal holds name before now taken later = Stops (RulesStop holds name) refusal before now taken later

-- the same of the rules and the versions after a script
abbrev pub RestRefused : Refusal → Setup → (List ℕ → Told) → Parts → ℕ → ℕ → ℕ → ℕ → Type 0
RestRefused refusal setup holds parts before now taken later = Stops (RestComes setup holds parts) refusal before now taken later

-- the version is that of the bytes that were read
pub record HasLoaded (limits : Limits) (setup : Setup) (version : Running Proc) (told : Told) : Type 0 where
  pub bytes : List ℕ
  pub read : IsReadOf bytes told
  pub machine : Machine
  pub begins : version.at.process ≡ process_begun limits setup machine
  pub loads : version_from limits setup bytes ≡ Loads machine

-- a version file with this cause: too long, or else faulty
abbrev pub IsFault : Limits → Setup → Found → Cause → Type 0
IsFault limits setup (Whole bytes) cause = version_from limits setup bytes ≡ Faulty cause
IsFault limits setup TooLong cause = cause ≡ Long
IsFault limits setup Unread cause = ⊥

-- a version file that was found is too long or faulty
pub record IsFaulty (limits : Limits) (setup : Setup) (told : Told) (cause : Cause) : Type 0 where
  pub found : Found
  pub agrees : Agrees told found
  pub fault : IsFault limits setup found cause

-- a version can't be made: for want of memory, or a read failed, or it is too long or faulty
abbrev pub VersionRefused : Limits → Setup → Refusal → Place → Told → ℕ → ℕ → ℕ → ℕ → Type 0
VersionRefused limits setup refusal.Memory place told before now taken later = now ≡ before
VersionRefused limits setup (refusal.Unreadable at_place) place told before now taken later = (at_place ≡ place) × Rose before now × MayFail told
VersionRefused limits setup (refusal.Input at_place cause) place told before now taken later =
    (at_place ≡ place) × IsFaulty limits setup told cause × (now ≡ before) × (cause ≡ Long → TookLong taken later)

-- the versions are those of files with these names, one each
abbrev pub AreLoaded : Limits → Setup → List (Running Proc) → (List ℕ → Told) → List (List ℕ) → Type 0
AreLoaded limits setup [] holds [] = Unit {0}
AreLoaded limits setup [] holds (name ∷ names) = ⊥
AreLoaded limits setup (version ∷ versions) holds [] = ⊥
AreLoaded limits setup (version ∷ versions) holds (name ∷ names) = HasLoaded limits setup version (holds name) × AreLoaded limits setup versions holds names

-- the versions with these names can't be made
abbrev pub VersionsRefused : Limits → Setup → Refusal → (List ℕ → Told) → List (List ℕ) → ℕ → ℕ → ℕ → ℕ → Type 0
VersionsRefused limits setup refusal holds names before now taken later = Stops (VersionsCome limits setup holds 0 names) refusal before now taken later

-- ---- a live run's script

-- the script says this, by its transcript's head, and nothing comes in it
pub record IsLiveScript (head : List ℕ) (setup : Setup) (bytes : List ℕ) : Type 0 where
  pub live : live_script bytes ≡ Ok setup
  pub begins : IsTranscript head setup
  pub none : setup.arrivals ≡ []

-- it is refused, or memory is wanted
abbrev pub IsLiveScriptRefusal : Refusal → List ℕ → Type 0
IsLiveScriptRefusal refusal.Memory bytes = Unit {0}
IsLiveScriptRefusal (refusal.Unreadable place) bytes = ⊥
IsLiveScriptRefusal (refusal.Input place cause) bytes = (place ≡ Script) × (cause ≢ Long) × (live_script bytes ≡ Err cause)

-- this is found of a script that may not be named, and stops the run
pub record LiveScriptStops (holds : List ℕ → Told) (name : Option (List ℕ)) (whole : Prepared) : Type 0 where
  pub found : Found
  pub agrees : AgreesOrBare holds name found
  pub is : (check : List ℕ → Prepared) → read_at Script found check ≡ whole
