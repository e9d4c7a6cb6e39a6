-- What the statuses show.
use Rattle.std.proofs.Common.{◌≡◌, ◌∙◌, ◌⊎◌, sym, subst, inl, inr, ⊎_elim, ℕ, List, Bool, true, false, if◌then◌else◌, Option, Some, None, [], ◌∷◌, map, ap, refl, Result, Ok, Err, option_and_then, arith, IsErr}
use Rattle.std.specs.Prelude.{◌||◌, IsSome}
use Rattle.std.specs.List.{list_any}
use Rattle.nv_outside.specs.Counts.{Rose}
use Rattle.nv_outside.proofs.Writing.{puts-rose}
use Rattle.nv_outside.specs.Sink.{Put}
use Rattle.nv_replay.specs.declared.standing.Standing.{Standing}
use Rattle.nv_replay.specs.Follow.{is_exited}
use Rattle.nv_replay.specs.Lead.{is_memory}
use Rattle.nv_driver.specs.Words.{Name, Plan, Service, Job, Trail, Command, Runs, Serves, Uses, Generates, Records, Replays, Inspects, Helps, asked_by, after_program, command_of, command_name}
use Rattle.nv_replay.specs.Follow.{follow, fresh, judge_of}
use Rattle.nv_replay.specs.declared.fate.Fate.{Fate}
use Rattle.nv_replay.specs.declared.fate.Fate.TheVariants.{Exited}
use Rattle.nv_threads.specs.Threads.{threads}
use Rattle.nv_driver.specs.Account.{run_status, process_begun}
use Rattle.nv_driver.specs.Replayed.{replay_status}
use Rattle.nv_driver.specs.Traced.{Traced, Lack, traced, trace_finds_of, trail_limits}
use Rattle.nv_driver.specs.Traced as lack
use Rattle.nv_driver.proofs.Followed.{LacksRead, same_traced}
use Rattle.nv_driver.specs.Found.{Found, Unread, found_of, finds_of}
use Rattle.nv_driver.specs.Prepared.{Prepared, Unreadable, Refused, Ready, prepared}
use Rattle.nv_driver.specs.Made.{made_of}
use Rattle.nv_driver.specs.Outcome.{Source, Outcome, Usage, NoMemory, NotRead, NotAccepted, Reported, Made, Summed, Recorded, Replayed, Shown, Helped, Served, outcome_status, ended_with}
use Rattle.nv_driver.specs.Due.{RunComesTo, RunOwes, JobOwes, Owes, OwesAny, IsDue, Shows, Answers, IsReady, IsMade, IsAccepted, IsRefusedAt, IsRefusedFor, IsRefused, IsReport, IsDone, Completes, Rejects, made_outcome, RecordComesTo, RecordOwes, ServeComesTo, ServeOwes, TrailOwes, traced_outcome, replayed, shown as shown_by, IsTraced, IsRefusedOn}
use Rattle.nv_driver.specs.declared.tools.Unmade.{Unmade}
use Rattle.nv_driver.specs.declared.tools.Unmade.TheVariants as unmade
use Rattle.nv_driver.specs.Live.{live_prepared, live_finds_of}
use Rattle.nv_driver.proofs.Decided.{IsUnread, same_found, same_prepared, same_live_prepared}

-- a run has one of three statuses
one_of : (exited memory : Bool) (n : ℕ) → n ≡ (if exited then 0 else (if memory then 7 else 1)) → IsReport n
one_of true memory n is = inl is
one_of false true n is = inr (inr is)
one_of false false n is = inr (inl is)

run_done : (lines : List Standing) (n : ℕ) → n ≡ run_status lines → IsReport n
run_done lines n is = one_of (list_any (λ line. is_exited line.fate) lines) (list_any (λ line. is_memory line.fate) lines) n is

-- a run in which no version wanted memory has one of two
one_of_two : (exited memory : Bool) (n : ℕ) → memory ≡ false → n ≡ (if exited then 0 else (if memory then 7 else 1)) → (n ≡ 0) ⊎ (n ≡ 1)
one_of_two true memory n never is = inl is
one_of_two false true n never is = cc
one_of_two false false n never is = inr is

record_done : (lines : List Standing) (n : ℕ) → list_any (λ line. is_memory line.fate) lines ≡ false → n ≡ run_status lines → (n ≡ 0) ⊎ (n ≡ 1)
record_done lines n never is = one_of_two (list_any (λ line. is_exited line.fate) lines) (list_any (λ line. is_memory line.fate) lines) n never is

-- so has a replay
replay_done : (fate : Option Fate) (n : ℕ) → n ≡ replay_status fate → (n ≡ 0) ⊎ (n ≡ 1)
replay_done None n is = inl is
replay_done (Some (Exited code)) n is = inl is
replay_done (Some fate) n is = inr is

-- the status of a text that was written whole is its own
own : (put : Put) (n status : ℕ) → n ≡ ended_with put status → (IsErr put → ⊥) → n ≡ status
own (Ok _) n status ends whole = ends
own (Err _) n status ends whole = absurd (whole refl)

own_or_six : (put : Put) (n status : ℕ) → n ≡ ended_with put status → (n ≡ status) ⊎ (n ≡ 6)
own_or_six (Ok _) n status ends = inl ends
own_or_six (Err _) n status ends = inr ends

module _ (source : Source) (no_fault : Rose source.faults source.later_faults → ⊥) (outcome : Outcome) (shown : Shows outcome source) where
  -- no file was unreadable
  readable : (name : List ℕ) → outcome ≡ NotRead name → ⊥
  readable name e = no_fault (subst (λ (o : Outcome). Shows o source) e shown)

  run_readable : (plan : Plan) (whole : Prepared) → RunComesTo plan whole outcome → IsUnread whole → ⊥
  run_readable plan (Unreadable place) comes u = readable _ comes
  run_readable plan (Refused place cause) comes u = u
  run_readable plan (Ready setup rules machines) comes u = u

  module _ (plan : Plan) (r : RunOwes plan source.holds outcome) where
    run_decided : (IsUnread (prepared plan.limits (finds_of source.holds plan)) → ⊥) → prepared plan.limits r.finds ≡ prepared plan.limits (finds_of source.holds plan)
    run_decided told = same_prepared source.holds plan r.finds r.agree (run_readable plan (prepared plan.limits r.finds) r.comes) told

    run_told : (IsUnread (prepared plan.limits (finds_of source.holds plan)) → ⊥) → RunComesTo plan (prepared plan.limits (finds_of source.holds plan)) outcome
    run_told told = subst (λ (p : Prepared). RunComesTo plan p outcome) (run_decided told) r.comes

  record_readable : (plan : Plan) (whole : Prepared) → RecordComesTo plan whole outcome → IsUnread whole → ⊥
  record_readable plan (Unreadable place) comes u = readable _ comes
  record_readable plan (Refused place cause) comes u = u
  record_readable plan (Ready setup rules machines) comes u = u

  record_told : (plan : Plan) (r : RecordOwes plan source.holds outcome) → (IsUnread (prepared plan.limits (finds_of source.holds plan)) → ⊥) → RecordComesTo plan (prepared plan.limits (finds_of source.holds plan)) outcome
  record_told plan r told =
      subst (λ (p : Prepared). RecordComesTo plan p outcome)
      (same_prepared source.holds plan r.finds r.agree (record_readable plan (prepared plan.limits r.finds) r.comes) told) r.comes

  serve_readable : (service : Service) (whole : Prepared) → ServeComesTo service whole outcome → IsUnread whole → ⊥
  serve_readable service (Unreadable place) comes u = readable _ comes
  serve_readable service (Refused place cause) comes u = u
  serve_readable service (Ready setup rules machines) comes u = u

  serve_told : (service : Service) (r : ServeOwes service source.holds outcome) → (IsUnread (live_prepared service.limits (live_finds_of source.holds service)) → ⊥)
      → ServeComesTo service (live_prepared service.limits (live_finds_of source.holds service)) outcome
  serve_told service r told =
      subst (λ (p : Prepared). ServeComesTo service p outcome)
      (same_live_prepared source.holds service r.finds r.agree (serve_readable service (live_prepared service.limits r.finds) r.comes) told) r.comes

  module _ (trail : Trail) (made : Traced → Outcome) where
    trail_readable : (given : Result Traced Lack) → outcome ≡ traced_outcome trail made given → LacksRead given → ⊥
    trail_readable (Ok files) comes u = u
    trail_readable (Err (lack.Unreadable place)) comes u = readable _ comes
    trail_readable (Err (lack.Refused place cause)) comes u = u

    trail_told : TrailOwes trail made source.holds outcome → (LacksRead (traced trail (trace_finds_of source.holds trail)) → ⊥) → outcome ≡ traced_outcome trail made (traced trail (trace_finds_of source.holds trail))
    trail_told r told =
        r.comes ∙ ap (traced_outcome trail made) (same_traced trail source.holds r.finds r.agree (trail_readable (traced trail r.finds) r.comes) told)

  module _ (job : Job) (j : JobOwes job source.holds outcome) where
    job_told : (found_of (source.holds job.file) ≡ Unread → ⊥) → outcome ≡ made_outcome job (made_of job.tool (found_of (source.holds job.file)))
    job_told told =
        ⊎_elim (λ (e : j.found ≡ Unread). absurd (readable job.file (j.comes ∙ ap (λ f. made_outcome job (made_of job.tool f)) e)))
        (λ (r : (found_of (source.holds job.file) ≡ Unread) ⊎ (j.found ≡ found_of (source.holds job.file))). ⊎_elim (λ (e : found_of (source.holds job.file) ≡ Unread). absurd (told e))
        (λ (e : j.found ≡ found_of (source.holds job.file)). j.comes ∙ ap (λ f. made_outcome job (made_of job.tool f)) e) r)
        (same_found (source.holds job.file) j.found j.agrees)

ready_read : (whole : Prepared) → IsReady whole → IsUnread whole → ⊥
ready_read (Unreadable place) ready u = ready
ready_read (Refused place cause) ready u = ready
ready_read (Ready setup rules machines) ready u = u

refused_read : (whole : Prepared) → IsRefusedAt whole → IsUnread whole → ⊥
refused_read (Unreadable place) refused u = refused
refused_read (Refused place cause) refused u = u
refused_read (Ready setup rules machines) refused u = u

-- accepted files end with a status of the run, and a refused one with 4
ready_status : (plan : Plan) (whole : Prepared) (outcome : Outcome) → IsReady whole → RunComesTo plan whole outcome → IsDone (Runs plan) (outcome_status outcome)
ready_status plan (Unreadable place) outcome ready comes = absurd ready
ready_status plan (Refused place cause) outcome ready comes = absurd ready
ready_status plan (Ready setup rules machines) outcome ready comes = run_done comes.0.lines (outcome_status outcome) (ap outcome_status comes.1)

refused_status : (plan : Plan) (whole : Prepared) (outcome : Outcome) → IsRefusedAt whole → RunComesTo plan whole outcome → outcome_status outcome ≡ 4
refused_status plan (Unreadable place) outcome refused comes = absurd refused
refused_status plan (Refused place cause) outcome refused comes = ap outcome_status comes
refused_status plan (Ready setup rules machines) outcome refused comes = absurd refused

record_ready_status : (plan : Plan) (whole : Prepared) (outcome : Outcome) → IsReady whole → RecordComesTo plan whole outcome → IsDone (Records plan) (outcome_status outcome)
record_ready_status plan (Unreadable place) outcome ready comes = absurd ready
record_ready_status plan (Refused place cause) outcome ready comes = absurd ready
record_ready_status plan (Ready setup rules machines) outcome ready comes = record_done comes.0.lines (outcome_status outcome) comes.3 (ap outcome_status comes.1)

record_refused_status : (plan : Plan) (whole : Prepared) (outcome : Outcome) → IsRefusedAt whole → RecordComesTo plan whole outcome → outcome_status outcome ≡ 4
record_refused_status plan (Unreadable place) outcome refused comes = absurd refused
record_refused_status plan (Refused place cause) outcome refused comes = ap outcome_status comes
record_refused_status plan (Ready setup rules machines) outcome refused comes = absurd refused

serve_ready_status : (service : Service) (whole : Prepared) (outcome : Outcome) → IsReady whole → ServeComesTo service whole outcome → IsDone (Serves service) (outcome_status outcome)
serve_ready_status service (Unreadable place) outcome ready comes = absurd ready
serve_ready_status service (Refused place cause) outcome ready comes = absurd ready
serve_ready_status service (Ready setup rules machines) outcome ready comes = run_done comes.2.lines (outcome_status outcome) (ap outcome_status comes.3)

serve_refused_status : (service : Service) (whole : Prepared) (outcome : Outcome) → IsRefusedAt whole → ServeComesTo service whole outcome → outcome_status outcome ≡ 4
serve_refused_status service (Unreadable place) outcome refused comes = absurd refused
serve_refused_status service (Refused place cause) outcome refused comes = ap outcome_status comes
serve_refused_status service (Ready setup rules machines) outcome refused comes = absurd refused

module _ (trail : Trail) (made : Traced → Outcome) (outcome : Outcome) where
  traced_read : (given : Result Traced Lack) → IsTraced given → LacksRead given → ⊥
  traced_read (Ok files) is u = u
  traced_read (Err lack) is u = absurd is

  lacking_read : (given : Result Traced Lack) → IsRefusedOn given → LacksRead given → ⊥
  lacking_read (Ok files) refused u = u
  lacking_read (Err (lack.Unreadable place)) refused u = absurd refused
  lacking_read (Err (lack.Refused place cause)) refused u = u

  traced_status : (P : ℕ → Type 0) → ((files : Traced) → P (outcome_status (made files))) → (given : Result Traced Lack) → IsTraced given → outcome ≡ traced_outcome trail made given → P (outcome_status outcome)
  traced_status P done (Ok files) is comes = subst (λ (o : Outcome). P (outcome_status o)) (sym comes) (done files)
  traced_status P done (Err lack) is comes = absurd is

  lacking_status : (given : Result Traced Lack) → IsRefusedOn given → outcome ≡ traced_outcome trail made given → outcome_status outcome ≡ 4
  lacking_status (Ok files) refused comes = absurd refused
  lacking_status (Err (lack.Unreadable place)) refused comes = absurd refused
  lacking_status (Err (lack.Refused place cause)) refused comes = ap outcome_status comes

made_status : (job : Job) (made : Result (List ℕ) Unmade) (outcome : Outcome) → IsMade made → outcome ≡ made_outcome job made → outcome_status outcome ≡ 0
made_status job (Ok text) outcome is comes = ap outcome_status comes
made_status job (Err reason) outcome is comes = absurd is

unmade_status : (job : Job) (made : Result (List ℕ) Unmade) (outcome : Outcome) → IsRefusedFor made → outcome ≡ made_outcome job made → outcome_status outcome ≡ 4
unmade_status job (Ok text) outcome refused comes = absurd refused
unmade_status job (Err unmade.Memory) outcome refused comes = absurd refused
unmade_status job (Err unmade.Unreadable) outcome refused comes = absurd refused
unmade_status job (Err (unmade.Refused cause)) outcome refused comes = ap outcome_status comes

made_found : (job : Job) (found : Found) → IsMade (made_of job.tool found) → found ≡ Unread → ⊥
made_found job found is e = subst (λ (f : Found). IsMade (made_of job.tool f)) e is

refused_found : (job : Job) (found : Found) → IsRefusedFor (made_of job.tool found) → found ≡ Unread → ⊥
refused_found job found refused e = subst (λ (f : Found). IsRefusedFor (made_of job.tool f)) e refused

module _ (source : Source) (no_fault : Rose source.faults source.later_faults → ⊥) (outcome : Outcome) (shown : Shows outcome source) where
  accepted_status : (command : Command) → Owes command source.holds outcome → IsAccepted command source.holds → IsDone command (outcome_status outcome)
  accepted_status (Runs plan) owed accepted =
      ready_status plan (prepared plan.limits (finds_of source.holds plan)) outcome accepted
      (run_told source no_fault outcome shown plan owed (ready_read (prepared plan.limits (finds_of source.holds plan)) accepted))
  accepted_status (Uses job) owed accepted =
      made_status job (made_of job.tool (found_of (source.holds job.file))) outcome accepted
      (job_told source no_fault outcome shown job owed (made_found job (found_of (source.holds job.file)) accepted))
  accepted_status (Generates n) owed accepted = ap outcome_status owed.comes
  accepted_status (Records plan) owed accepted =
      record_ready_status plan (prepared plan.limits (finds_of source.holds plan)) outcome accepted
      (record_told source no_fault outcome shown plan owed (ready_read (prepared plan.limits (finds_of source.holds plan)) accepted))
  accepted_status (Replays trail) owed accepted =
      traced_status trail (replayed trail) outcome (λ n. (n ≡ 0) ⊎ (n ≡ 1))
      (λ files. replay_done (follow threads (judge_of files.rules trail.index) files.log (fresh (process_begun (trail_limits trail) files.setup files.machine))).fate _ refl)
      (traced trail (trace_finds_of source.holds trail)) accepted
      (trail_told source no_fault outcome shown trail (replayed trail) owed (traced_read trail (replayed trail) outcome (traced trail (trace_finds_of source.holds trail)) accepted))
  accepted_status (Inspects look) owed accepted =
      traced_status look.trail (shown_by look) outcome (λ n. n ≡ 0) (λ files. refl) (traced look.trail (trace_finds_of source.holds look.trail)) accepted
      (trail_told source no_fault outcome shown look.trail (shown_by look) owed (traced_read look.trail (shown_by look) outcome (traced look.trail (trace_finds_of source.holds look.trail)) accepted))
  accepted_status (Helps topic) owed accepted = ap outcome_status owed
  accepted_status (Serves service) owed accepted =
      serve_ready_status service (live_prepared service.limits (live_finds_of source.holds service)) outcome accepted
      (serve_told source no_fault outcome shown service owed (ready_read (live_prepared service.limits (live_finds_of source.holds service)) accepted))

  rejected_status : (command : Command) → Owes command source.holds outcome → IsRefused command source.holds → outcome_status outcome ≡ 4
  rejected_status (Runs plan) owed refused =
      refused_status plan (prepared plan.limits (finds_of source.holds plan)) outcome refused
      (run_told source no_fault outcome shown plan owed (refused_read (prepared plan.limits (finds_of source.holds plan)) refused))
  rejected_status (Uses job) owed refused =
      unmade_status job (made_of job.tool (found_of (source.holds job.file))) outcome refused
      (job_told source no_fault outcome shown job owed (refused_found job (found_of (source.holds job.file)) refused))
  rejected_status (Generates n) owed refused = absurd refused
  rejected_status (Records plan) owed refused =
      record_refused_status plan (prepared plan.limits (finds_of source.holds plan)) outcome refused
      (record_told source no_fault outcome shown plan owed (refused_read (prepared plan.limits (finds_of source.holds plan)) refused))
  rejected_status (Replays trail) owed refused =
      lacking_status trail (replayed trail) outcome (traced trail (trace_finds_of source.holds trail)) refused
      (trail_told source no_fault outcome shown trail (replayed trail) owed (lacking_read trail (replayed trail) outcome (traced trail (trace_finds_of source.holds trail)) refused))
  rejected_status (Inspects look) owed refused =
      lacking_status look.trail (shown_by look) outcome (traced look.trail (trace_finds_of source.holds look.trail)) refused
      (trail_told source no_fault outcome shown look.trail (shown_by look) owed (lacking_read look.trail (shown_by look) outcome (traced look.trail (trace_finds_of source.holds look.trail)) refused))
  rejected_status (Helps topic) owed refused = absurd refused
  rejected_status (Serves service) owed refused =
      serve_refused_status service (live_prepared service.limits (live_finds_of source.holds service)) outcome refused
      (serve_told source no_fault outcome shown service owed (refused_read (live_prepared service.limits (live_finds_of source.holds service)) refused))

-- an outcome that is due and shown, and the status that the call ended with
module _ (words : List (List ℕ)) (source : Source) (status : ℕ) (outcome : Outcome) (due : IsDue words source.holds outcome) (shown : Shows outcome source)
    (put : Put) (ends : status ≡ ended_with put (outcome_status outcome)) where
  -- what the words owe that name this command, unless memory is wanted
  owes : (command : Command) → command_of words ≡ Some command → Owes command source.holds outcome ⊎ (outcome_status outcome ≡ 3)
  owes command asked =
      ⊎_elim (λ (owed : OwesAny (command_of words) source.holds outcome). inl (subst (λ (c : Option Command). OwesAny c source.holds outcome) asked owed))
      (λ (m : (outcome ≡ NoMemory) × IsSome (command_name words)). inr (ap outcome_status m.0)) due

  pub completes-of : (faults later : ℕ) → (IsErr put → Rose faults later) → Completes words source faults status later
  completes-of faults later rose = λ command asked accepted no_fault no_write.
      let is : status ≡ outcome_status outcome = own put status (outcome_status outcome) ends (λ failed. no_write (rose failed)) in
      ⊎_elim (λ (owed : Owes command source.holds outcome). inl (subst (λ (n : ℕ). IsDone command n) (sym is) (accepted_status source no_fault outcome shown command owed accepted)))
      (λ (three : outcome_status outcome ≡ 3). inr (is ∙ three)) (owes command asked)

  pub rejects-of : Rejects words source status
  rejects-of = λ command asked refused no_fault.
      ⊎_elim (λ (is : status ≡ outcome_status outcome).
      ⊎_elim (λ (owed : Owes command source.holds outcome). inl (is ∙ rejected_status source no_fault outcome shown command owed refused))
      (λ (three : outcome_status outcome ≡ 3). inr (inr (is ∙ three))) (owes command asked))
      (λ (six : status ≡ 6). inr (inl six)) (own_or_six put status (outcome_status outcome) ends)

module _ {words : List (List ℕ)} {source : Source} {before after : Option (List ℕ)} {faults status later : ℕ} where
  pub completes-by : Answers words source before faults status after later → Completes words source faults status later
  completes-by a = completes-of words source status a.outcome a.due a.shown a.says.put a.says.ends faults later (puts-rose a.says.written)

  pub rejects-by : Answers words source before faults status after later → Rejects words source status
  rejects-by a = rejects-of words source status a.outcome a.due a.shown a.says.put a.says.ends

not_five : (n : ℕ) → IsReport n → n ≡ 5 → ⊥
not_five n done five = ⊎_elim (λ is. omega arith) (λ r. ⊎_elim (λ is. omega arith) (λ is. omega arith) r) done

not_six : (n : ℕ) → IsReport n → n ≡ 6 → ⊥
not_six n done six = ⊎_elim (λ is. omega arith) (λ r. ⊎_elim (λ is. omega arith) (λ is. omega arith) r) done

two_not_five : (n : ℕ) → (n ≡ 0) ⊎ (n ≡ 1) → n ≡ 5 → ⊥
two_not_five n done five = ⊎_elim (λ is. omega arith) (λ is. omega arith) done

two_not_six : (n : ℕ) → (n ≡ 0) ⊎ (n ≡ 1) → n ≡ 6 → ⊥
two_not_six n done six = ⊎_elim (λ is. omega arith) (λ is. omega arith) done

five : (outcome : Outcome) (put : Put) (source : Source) (n : ℕ) → Shows outcome source → n ≡ ended_with put (outcome_status outcome) → n ≡ 5 → Rose source.faults source.later_faults
five (NotRead name) put source n shown ends is = shown
five Usage (Ok _) source n shown ends is = absurd (omega arith)
five NoMemory (Ok _) source n shown ends is = absurd (omega arith)
five (NotAccepted limit name cause) (Ok _) source n shown ends is = absurd (omega arith)
five (Reported json setup account) (Ok _) source n shown ends is = absurd (not_five n (run_done account.lines n ends) is)
five (Made text) (Ok _) source n shown ends is = absurd (omega arith)
five (Summed k setup account) (Ok _) source n shown ends is = absurd (omega arith)
five (Recorded account) (Ok _) source n shown ends is = absurd (not_five n (run_done account.lines n ends) is)
five (Replayed at) (Ok _) source n shown ends is = absurd (two_not_five n (replay_done at.fate n ends) is)
five (Shown text) (Ok _) source n shown ends is = absurd (omega arith)
five (Helped topic) (Ok _) source n shown ends is = absurd (omega arith)
five (Served setup asked account) (Ok _) source n shown ends is = absurd (not_five n (run_done account.lines n ends) is)
five outcome (Err _) source n shown ends is = absurd (omega arith)

six : (outcome : Outcome) (put : Put) (n : ℕ) → n ≡ ended_with put (outcome_status outcome) → n ≡ 6 → IsErr put
six outcome (Err _) n ends is = refl
six Usage (Ok _) n ends is = absurd (omega arith)
six NoMemory (Ok _) n ends is = absurd (omega arith)
six (NotRead name) (Ok _) n ends is = absurd (omega arith)
six (NotAccepted limit name cause) (Ok _) n ends is = absurd (omega arith)
six (Reported json setup account) (Ok _) n ends is = absurd (not_six n (run_done account.lines n ends) is)
six (Made text) (Ok _) n ends is = absurd (omega arith)
six (Summed k setup account) (Ok _) n ends is = absurd (omega arith)
six (Recorded account) (Ok _) n ends is = absurd (not_six n (run_done account.lines n ends) is)
six (Replayed at) (Ok _) n ends is = absurd (two_not_six n (replay_done at.fate n ends) is)
six (Shown text) (Ok _) n ends is = absurd (omega arith)
six (Helped topic) (Ok _) n ends is = absurd (omega arith)
six (Served setup asked account) (Ok _) n ends is = absurd (not_six n (run_done account.lines n ends) is)

-- the status of a text is never that of a write fault
pub never_six : (outcome : Outcome) → outcome_status outcome ≡ 6 → ⊥
never_six outcome is = let failed = six outcome (Ok tt) (outcome_status outcome) refl is in cc

-- a name of no command is refused
nameless : (words : List (List ℕ)) → command_name words ≡ None → command_of words ≡ None
unfolding command_of
nameless words none = ap (option_and_then (asked_by (after_program words))) none

is_nameless : (words : List (List ℕ)) → IsSome (command_name words) → command_name words ≡ None → ⊥
is_nameless words is none = let h = subst (λ (name : Option Name). IsSome name) none is in cc

module _ {words : List (List ℕ)} {source : Source} {before after : Option (List ℕ)} {faults status later : ℕ} (a : Answers words source before faults status after later) where
  -- status 5 shows a read fault, and status 6 a write fault
  pub five-by : status ≡ 5 → Rose source.faults source.later_faults
  five-by is = five a.outcome a.says.put source status a.shown a.says.ends is

  pub six-by : status ≡ 6 → Rose faults later
  six-by is = puts-rose a.says.written (six a.outcome a.says.put status a.says.ends is)

  -- words that name no command get 2, where no write failed
  pub usage-by : command_name words ≡ None → (Rose faults later → ⊥) → status ≡ 2
  usage-by none no_write =
      let is : status ≡ outcome_status a.outcome = own a.says.put status (outcome_status a.outcome) a.says.ends (λ failed. no_write (puts-rose a.says.written failed)) in
      let refused : command_of words ≡ None = nameless words none in
      ⊎_elim (λ (owed : OwesAny (command_of words) source.holds a.outcome). let usage : a.outcome ≡ Usage = subst (λ (c : Option Command). OwesAny c source.holds a.outcome) refused owed in is ∙ ap outcome_status usage)
      (λ (m : (a.outcome ≡ NoMemory) × IsSome (command_name words)). absurd (is_nameless words m.1 none)) a.due

-- some element passes, of what is seen of a list
pub any-map : {X Y : Type 0} (p : Y → Bool) (f : X → Y) (xs : List X) → list_any p (map f xs) ≡ list_any (λ x. p (f x)) xs
any-map p f [] = refl
any-map p f (x ∷ xs) = ap (λ z. p (f x) || z) (any-map p f xs)
