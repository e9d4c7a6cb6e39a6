-- How the files of a run are read, and why a run doesn't start.
use Rattle.std.specs.Prelude.{◌≡◌, ◌≤◌, ℕ, List, [], Option, length, map}
use Rattle.nv_outside.specs.Counts.{Rose}
use Rattle.nv_outside.specs.Told.{Told}
use Rattle.nv_driver.specs.Words.{Plan, Service}
use Rattle.nv_calls.specs.Calls.{Entry}
use Rattle.nv_script.specs.Scripts.{Setup}
use Rattle.nv_script.specs.Transcripts.{IsTranscript}
use Rattle.nv_bpf.specs.declared.op.Op.{Op}
use Rattle.nv_machine.specs.Guest.{Machine}
use Rattle.nv_threads.specs.Threads.{Proc, threads}
use Rattle.nv_replay.specs.Version.{Running, process_of}
use Rattle.nv_replay.specs.Account.{AreFresh}
use Rattle.nv_driver.specs.Account.{process_begun}
use Rattle.nv_driver.specs.Found.{Finds, AreFound, TookLong, TookMore}
use Rattle.nv_driver.specs.Outcome.{limit_at}
use Rattle.nv_driver.specs.Prepared.{Prepared, Unreadable, Refused, Ready, prepared}
use Rattle.nv_driver.specs.Live.{AreLiveFound, live_prepared}
use Rattle.nv_driver.specs.declared.refusal.Cause.TheVariants.{Long}
use Rattle.nv_driver.specs.declared.refusal.Refusal.{Refusal}
use Rattle.nv_driver.specs.declared.refusal.Refusal.TheVariants as refusal

-- something is found at each place that agrees with what is told, and over that the files come to this
pub record ComesTo (plan : Plan) (holds : List ℕ → Told) (whole : Prepared) : Type 0 where
  pub finds : Finds
  pub agree : AreFound plan holds finds
  pub is : prepared plan.limits finds ≡ whole

-- the same of a live run
pub record LiveComesTo (service : Service) (holds : List ℕ → Told) (whole : Prepared) : Type 0 where
  pub finds : Finds
  pub agree : AreLiveFound service holds finds
  pub is : live_prepared service.limits finds ≡ whole

-- Why files that have the usual limit, and come to something, aren't ready: for want of memory; or a read failed; or a file is refused.
abbrev pub Stops : (Prepared → Type 0) → Refusal → ℕ → ℕ → ℕ → ℕ → Type 0
Stops Comes refusal.Memory before now taken later = now ≡ before
Stops Comes (refusal.Unreadable place) before now taken later = Comes (Unreadable place) × Rose before now
Stops Comes (refusal.Input place cause) before now taken later = Comes (Refused place cause) × (now ≡ before) × (cause ≡ Long → TookLong taken later)

-- why a run doesn't start; its script may have another limit than the files after it
abbrev pub Refuses : Refusal → (List ℕ → Told) → Plan → ℕ → ℕ → ℕ → ℕ → Type 0
Refuses refusal.Memory holds plan before now taken later = now ≡ before
Refuses (refusal.Unreadable place) holds plan before now taken later = ComesTo plan holds (Unreadable place) × Rose before now
Refuses (refusal.Input place cause) holds plan before now taken later =
    ComesTo plan holds (Refused place cause) × (now ≡ before) × (cause ≡ Long → TookMore (limit_at place plan) taken later)

-- why a live run doesn't start
abbrev pub RefusesLive : Refusal → (List ℕ → Told) → Service → ℕ → ℕ → ℕ → ℕ → Type 0
RefusesLive refusal holds service before now taken later = Stops (LiveComesTo service holds) refusal before now taken later

-- the lengths at which the leader hands over are the script's, at most eight
pub record IsPlanned (setup : Setup) (hands : List ℕ) : Type 0 where
  pub same : hands ≡ setup.hands
  pub few : length hands ≤ 8

-- a kernel over what the script says, rules, and versions that are ready to run, to which the files come
pub record IsPrepared (log : List Entry) (setup : Setup) (rules : Option (List Op)) (versions : List (Running Proc)) (holds : List ℕ → Told) (plan : Plan) : Type 0 where
  pub empty : log ≡ []
  pub machines : List Machine
  pub processes : map process_of versions ≡ map (process_begun plan.limits setup) machines
  pub comes : ComesTo plan holds (Ready setup rules machines)
  pub fresh : AreFresh threads 0 versions
  pub few : length versions ≤ 8

-- A script by its transcript's head, in which nothing comes yet, rules, and versions that are ready to run, to which the files of a live run come.
pub record IsLivePrepared (head : List ℕ) (setup : Setup) (rules : Option (List Op)) (versions : List (Running Proc)) (holds : List ℕ → Told) (service : Service) : Type 0 where
  pub machines : List Machine
  pub processes : map process_of versions ≡ map (process_begun service.limits setup) machines
  pub comes : LiveComesTo service holds (Ready setup rules machines)
  pub fresh : AreFresh threads 0 versions
  pub few : length versions ≤ 8
  pub begins : IsTranscript head setup
  pub none : setup.arrivals ≡ []
