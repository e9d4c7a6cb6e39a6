-- What the words ask for, by what each command's words are.
use Rattle.std.proofs.Common.{◌≡◌, ◌∙◌, sym, ap, ℕ, false, List, [], Option, Some, None, Ok, refl, inl, inr, ⊎_elim, subst, option_and_then}
use Rattle.std.specs.Prelude.{IsSome}
use Rattle.nv_outside.specs.Told.{Told}
use Rattle.nv_outside.proofs.Writing.{puts-none}
use Rattle.nv_driver.specs.Refusals.{ComesTo, LiveComesTo, Refuses, RefusesLive}
use Rattle.nv_driver.specs.Live.{Streams, Unserved, with_arrivals, with_hands}
use Rattle.nv_driver.specs.Account.{IsRunOf, run_status}
use Rattle.nv_driver.specs.declared.ending.Ending.{Ending}
use Rattle.nv_driver.specs.declared.ending.Ending.TheVariants.{Finished}
use Rattle.nv_script.specs.Arrivals.{Arrival}
use Rattle.nv_replay.specs.Sequence.{Account}
use Rattle.nv_driver.specs.Prepared.{Prepared, Ready}
use Rattle.nv_driver.specs.Prepared as prep
use Rattle.nv_script.specs.Scripts.{Setup}
use Rattle.nv_bpf.specs.declared.op.Op.{Op}
use Rattle.nv_machine.specs.Guest.{Machine}
use Rattle.nv_driver.specs.Outcome.{Source, Outcome, Usage, NoMemory, NotRead, NotAccepted, Reported, Recorded, Served, outcome_of, live_outcome_of, name_at, limit_at, name_in, name_on, limit_on, refused_text, text_of, outcome_status}
use Rattle.nv_driver.specs.Found.{FILE_LIMIT, TookLong, TookMore}
use Rattle.nv_driver.specs.Due.{RunComesTo, RecordComesTo, ServeComesTo, ServeOwes, JobOwes, GenOwes, TrailOwes, traced_outcome, lack_outcome, Owes, OwesAny, IsDue, Shows, IsUntouched, Says, Answers, ServedOver, Over, AnswersOver}
use Rattle.nv_driver.specs.Ran.{Wrote, Tells}
use Rattle.nv_driver.specs.inner.Ran.{Ran, RunSays, RanRecorded, RecordSays}
use Rattle.nv_driver.specs.declared.refusal.Cause.{Cause}
use Rattle.nv_driver.specs.declared.refusal.Cause.TheVariants.{Long}
use Rattle.nv_driver.specs.declared.refusal.Place.{Place}
use Rattle.nv_driver.specs.Traced.{Traced}
use Rattle.nv_driver.specs.Traced as lack
use Rattle.nv_driver.specs.inner.Trails.{TrailRefused, refused_outcome}
use Rattle.nv_driver.specs.declared.refusal.Refusal.{Refusal}
use Rattle.nv_driver.specs.declared.refusal.Refusal.TheVariants.{Memory, Unreadable as Unread, Input}
use Rattle.nv_driver.specs.Words.{Name, Plan, Service, Job, Trail, Command, Runs, Serves, Uses, Generates, Records, Replays, Inspects, Helps, asked_by, after_program, command_of, command_name}
use Rattle.nv_driver.specs.Seen.{WordsRefused}
use Rattle.nv_driver.specs.declared.asked.LineFault.{LineFault}
use Rattle.nv_driver.specs.declared.asked.LineFault.TheVariants as line
use Rattle.nv_driver.specs.inner.Summing.{SumsUp}
use Rattle.nv_driver.specs.Tasks.{fault_outcome}

is_named : (name : Option Name) (asked : Name → Option Command) (command : Command) → option_and_then asked name ≡ Some command → IsSome name
is_named None asked command h = cc
is_named (Some name) asked command h = refl

-- words that are accepted name a command
named : (words : List (List ℕ)) (command : Command) → command_of words ≡ Some command → IsSome (command_name words)
unfolding command_of
named words command h = is_named (command_name words) (asked_by (after_program words)) command h

pub unasked : (words : List (List ℕ)) (command : Command) → command_of words ≡ Some command → command_of words ≡ None → ⊥
unasked words command asked none = let e : Some command ≡ None = sym asked ∙ none in cc

-- what a command owes is due
pub is_due : (words : List (List ℕ)) (holds : List ℕ → Told) (command : Command) (outcome : Outcome) → command_of words ≡ Some command → Owes command holds outcome → IsDue words holds outcome
is_due words holds command outcome asked owed = inl (subst (λ (c : Option Command). OwesAny c holds outcome) (sym asked) owed)

-- a command may want memory
pub memory_due : (words : List (List ℕ)) (holds : List ℕ → Told) (command : Command) → command_of words ≡ Some command → IsDue words holds NoMemory
memory_due words holds command asked = inr (refl, named words command asked)

-- a command's words aren't refused
pub asked_unread : (words : List (List ℕ)) (source : Source) (command : Command) → command_of words ≡ Some command → command_of words ≡ None → IsUntouched source
asked_unread words source command asked none = absurd (unasked words command asked none)

-- the files of a run come to an outcome
run_due : (words : List (List ℕ)) (holds : List ℕ → Told) (plan : Plan) (whole : Prepared) (outcome : Outcome) → command_of words ≡ Some (Runs plan)
    → ComesTo plan holds whole → RunComesTo plan whole outcome → IsDue words holds outcome
run_due words holds plan whole outcome asked files comes = is_due words holds (Runs plan) outcome asked (record {
  finds = files.finds;
  agree = files.agree;
  comes = subst (λ (p : Prepared). RunComesTo plan p outcome) (sym files.is) comes;
})

-- Something is due of words that name a command. It is answered as it is due, or memory is wanted for its text.
module _ (words : List (List ℕ)) (source : Source) (command : Command) (asked : command_of words ≡ Some command) (limit : ℕ) (name : List ℕ) (cause : Cause)
    (due : IsDue words source.holds (NotAccepted limit name cause)) (kept : source.later_faults ≡ source.faults) (long : cause ≡ Long → TookMore limit source.taken source.later_taken)
    (before : Option (List ℕ)) (faults status : ℕ) (after : Option (List ℕ)) (later : ℕ) where
  refused : Says (refused_text name cause) 4 before faults status after later → Answers words source before faults status after later
  refused says = record {
    outcome = NotAccepted limit name cause;
    due = due;
    shown = (kept, long);
    unread = asked_unread words source command asked;
    says = says;
  }

  wanted : Says (text_of NoMemory) 3 before faults status after later → Answers words source before faults status after later
  wanted says = record {
    outcome = NoMemory;
    due = memory_due words source.holds command asked;
    shown = kept;
    unread = asked_unread words source command asked;
    says = says;
  }

  refused_answers : Wrote (refused_text name cause) 4 before faults status after later → Answers words source before faults status after later
  refused_answers = ⊎_elim refused wanted

-- a command over the files of a run answers their refusal, where it owes that
module _ (words : List (List ℕ)) (source : Source) (plan : Plan) (command : Command) (asked : command_of words ≡ Some command)
    (unread : (place : Place) → ComesTo plan source.holds (prep.Unreadable place) → Owes command source.holds (NotRead (name_at place plan)))
    (unfit : (place : Place) (cause : Cause) → ComesTo plan source.holds (prep.Refused place cause) → Owes command source.holds (NotAccepted (limit_at place plan) (name_at place plan) cause)) where
  stopped_answers : (refusal : Refusal) → Refuses refusal source.holds plan source.faults source.later_faults source.taken source.later_taken
      → (before : Option (List ℕ)) (faults status : ℕ) (after : Option (List ℕ)) (later : ℕ) → Tells (outcome_of refusal plan) before faults status after later
      → Answers words source before faults status after later
  stopped_answers Memory h before faults status after later says = record {
    outcome = NoMemory;
    due = memory_due words source.holds command asked;
    shown = h;
    unread = asked_unread words source command asked;
    says = says;
  }
  stopped_answers (Unread place) h before faults status after later says = record {
    outcome = NotRead (name_at place plan);
    due = is_due words source.holds command (NotRead (name_at place plan)) asked (unread place h.0);
    shown = h.1;
    unread = asked_unread words source command asked;
    says = says;
  }
  stopped_answers (Input place cause) h before faults status after later says =
      refused_answers words source command asked (limit_at place plan) (name_at place plan) cause
      (is_due words source.holds command (NotAccepted (limit_at place plan) (name_at place plan) cause) asked (unfit place cause h.0)) h.1 h.2 before faults status after later says

-- a run that doesn't start answers its refusal
pub refusal_answers : (refusal : Refusal) (words : List (List ℕ)) (source : Source) (plan : Plan) → command_of words ≡ Some (Runs plan)
    → Refuses refusal source.holds plan source.faults source.later_faults source.taken source.later_taken
    → (before : Option (List ℕ)) (faults status : ℕ) (after : Option (List ℕ)) (later : ℕ) → Tells (outcome_of refusal plan) before faults status after later
    → Answers words source before faults status after later
refusal_answers refusal words source plan asked =
    stopped_answers words source plan (Runs plan) asked
    (λ place files. record { finds = files.finds; agree = files.agree; comes = subst (λ (p : Prepared). RunComesTo plan p (NotRead (name_at place plan))) (sym files.is) refl })
    (λ place cause files. record { finds = files.finds; agree = files.agree; comes = subst (λ (p : Prepared). RunComesTo plan p (NotAccepted (limit_at place plan) (name_at place plan) cause)) (sym files.is) refl })
    refusal

-- so does one that is recorded
pub record_refusal_answers : (refusal : Refusal) (words : List (List ℕ)) (source : Source) (plan : Plan) → command_of words ≡ Some (Records plan)
    → Refuses refusal source.holds plan source.faults source.later_faults source.taken source.later_taken
    → (before : Option (List ℕ)) (faults status : ℕ) (after : Option (List ℕ)) (later : ℕ) → Tells (outcome_of refusal plan) before faults status after later
    → Answers words source before faults status after later
record_refusal_answers refusal words source plan asked =
    stopped_answers words source plan (Records plan) asked
    (λ place files. record { finds = files.finds; agree = files.agree; comes = subst (λ (p : Prepared). RecordComesTo plan p (NotRead (name_at place plan))) (sym files.is) refl })
    (λ place cause files. record { finds = files.finds; agree = files.agree; comes = subst (λ (p : Prepared). RecordComesTo plan p (NotAccepted (limit_at place plan) (name_at place plan) cause)) (sym files.is) refl })
    refusal

-- a command over one file answers that the file is refused
pub job_refused : (words : List (List ℕ)) (source : Source) (job : Job) (cause : Cause) → command_of words ≡ Some (Uses job)
    → JobOwes job source.holds (NotAccepted FILE_LIMIT job.file cause) → source.later_faults ≡ source.faults → (cause ≡ Long → TookLong source.taken source.later_taken)
    → (before : Option (List ℕ)) (faults status : ℕ) (after : Option (List ℕ)) (later : ℕ) → Wrote (refused_text job.file cause) 4 before faults status after later
    → Answers words source before faults status after later
job_refused words source job cause asked owed kept long before faults status after later says =
    refused_answers words source (Uses job) asked FILE_LIMIT job.file cause (is_due words source.holds (Uses job) (NotAccepted FILE_LIMIT job.file cause) asked owed) kept long
    before faults status after later says

module _ (words : List (List ℕ)) (source : Source) (plan : Plan) (asked : command_of words ≡ Some (Runs plan)) (kept : source.later_faults ≡ source.faults) (setup : Setup) (rules : Option (List Op)) (machines : List Machine)
    (files : ComesTo plan source.holds (Ready setup rules machines)) (before : Option (List ℕ)) (faults status : ℕ) (after : Option (List ℕ)) (later : ℕ) where
  reported : Ran plan.limits plan.json setup rules machines before faults status after later → Answers words source before faults status after later
  reported ran = record {
    outcome = Reported plan.json setup ran.account;
    due = run_due words source.holds plan (Ready setup rules machines) (Reported plan.json setup ran.account) asked files (ran.account, refl, ran.is_run);
    shown = kept;
    unread = asked_unread words source (Runs plan) asked;
    says = ran.says;
  }

  starved : Says (text_of NoMemory) 3 before faults status after later → Answers words source before faults status after later
  starved says = record {
    outcome = NoMemory;
    due = memory_due words source.holds (Runs plan) asked;
    shown = kept;
    unread = asked_unread words source (Runs plan) asked;
    says = says;
  }

  -- versions that ran have an outcome of the run
  pub ran_answers : RunSays plan.limits plan.json setup rules machines before faults status after later → Answers words source before faults status after later
  ran_answers = ⊎_elim reported starved

-- what a made run comes to is the answer of its words
pub made_answers : (words : List (List ℕ)) (source : Source) (n : ℕ) → command_of words ≡ Some (Generates n) → source.later_faults ≡ source.faults → source.later_taken ≡ source.taken
    → (before : Option (List ℕ)) (faults status : ℕ) (after : Option (List ℕ)) (later : ℕ) → SumsUp n before faults status after later → Answers words source before faults status after later
made_answers words source n asked kept taken before faults status after later s = record {
  outcome = s.outcome;
  due = ⊎_elim (λ (owed : GenOwes n s.outcome). is_due words source.holds (Generates n) s.outcome asked owed)
      (λ (e : s.outcome ≡ NoMemory). subst (λ (o : Outcome). IsDue words source.holds o) (sym e) (memory_due words source.holds (Generates n) asked)) s.owed;
  shown = ⊎_elim (λ (owed : GenOwes n s.outcome). subst (λ (o : Outcome). Shows o source) (sym owed.comes) (kept, taken))
      (λ (e : s.outcome ≡ NoMemory). subst (λ (o : Outcome). Shows o source) (sym e) kept) s.owed;
  unread = asked_unread words source (Generates n) asked;
  says = s.says;
}

-- refused words, and no file that was read
pub words_refused : (fault : LineFault) (words : List (List ℕ)) (source : Source) → WordsRefused fault words → IsUntouched source
    → (before : Option (List ℕ)) (faults status : ℕ) (after : Option (List ℕ)) (later : ℕ)
    → Says (text_of (fault_outcome fault)) (outcome_status (fault_outcome fault)) before faults status after later → Answers words source before faults status after later
words_refused line.Usage words source refused still before faults status after later says = record {
  outcome = Usage;
  due = inl (subst (λ (command : Option Command). OwesAny command source.holds Usage) (sym refused) refl);
  shown = still.0;
  unread = λ none. still;
  says = says;
}
words_refused line.Memory words source named still before faults status after later says = record {
  outcome = NoMemory;
  due = inr (refl, named);
  shown = still.0;
  unread = λ none. still;
  says = says;
}

module _ (words : List (List ℕ)) (source : Source) (plan : Plan) (asked : command_of words ≡ Some (Records plan)) (kept : source.later_faults ≡ source.faults) (setup : Setup) (rules : Option (List Op)) (machines : List Machine)
    (files : ComesTo plan source.holds (Ready setup rules machines)) (before : Option (List ℕ)) (faults status : ℕ) (after : Option (List ℕ)) (later : ℕ) where
  recorded : RanRecorded plan.limits setup rules machines before faults status after later → Answers words source before faults status after later
  recorded ran = record {
    outcome = Recorded ran.account;
    due = is_due words source.holds (Records plan) (Recorded ran.account) asked (record {
      finds = files.finds;
      agree = files.agree;
      comes = subst (λ (p : Prepared). RecordComesTo plan p (Recorded ran.account)) (sym files.is) (ran.account, refl, ran.is_run, ran.never_starved);
    });
    shown = kept;
    unread = asked_unread words source (Records plan) asked;
    says = ran.says;
  }

  unrecorded : Says (text_of NoMemory) 3 before faults status after later → Answers words source before faults status after later
  unrecorded says = record {
    outcome = NoMemory;
    due = memory_due words source.holds (Records plan) asked;
    shown = kept;
    unread = asked_unread words source (Records plan) asked;
    says = says;
  }

  -- versions that ran have an outcome of the recorded run
  pub record_answers : RecordSays plan.limits setup rules machines before faults status after later → Answers words source before faults status after later
  record_answers = ⊎_elim recorded unrecorded

-- ---- a version that follows a trace

module _ (words : List (List ℕ)) (source : Source) (command : Command) (asked : command_of words ≡ Some command)
    (before : Option (List ℕ)) (faults status : ℕ) (after : Option (List ℕ)) (later : ℕ) where
  -- an outcome that is owed and told
  abbrev pub told_answers : (outcome : Outcome) → Owes command source.holds outcome → Shows outcome source → Says (text_of outcome) (outcome_status outcome) before faults status after later
      → Answers words source before faults status after later
  told_answers outcome owed shown says = record {
    outcome = outcome;
    due = is_due words source.holds command outcome asked owed;
    shown = shown;
    unread = asked_unread words source command asked;
    says = says;
  }

  -- memory was wanted
  abbrev pub wanted_answers : source.later_faults ≡ source.faults → Says (text_of NoMemory) 3 before faults status after later → Answers words source before faults status after later
  wanted_answers kept says = record {
    outcome = NoMemory;
    due = memory_due words source.holds command asked;
    shown = kept;
    unread = asked_unread words source command asked;
    says = says;
  }

  -- it is told, or memory was wanted
  pub wrote_answers : (outcome : Outcome) → Owes command source.holds outcome → Shows outcome source → source.later_faults ≡ source.faults
      → Wrote (text_of outcome) (outcome_status outcome) before faults status after later → Answers words source before faults status after later
  wrote_answers outcome owed shown kept = ⊎_elim (told_answers outcome owed shown) (wanted_answers kept)

  -- a file that is refused
  lack_answers : (trail : Trail) (place : Place) (cause : Cause) → Owes command source.holds (lack_outcome trail (lack.Refused place cause)) → source.later_faults ≡ source.faults
      → (cause ≡ Long → TookMore (limit_on place trail) source.taken source.later_taken) → Tells (lack_outcome trail (lack.Refused place cause)) before faults status after later
      → Answers words source before faults status after later
  lack_answers trail place cause owed kept long says = wrote_answers (NotAccepted (limit_on place trail) (name_on place trail) cause) owed (kept, long) kept says

  -- files that give nothing have it answered
  pub trail_refusal_answers : (refusal : Refusal) (trail : Trail) (made : Traced → Outcome) → ((outcome : Outcome) → TrailOwes trail made source.holds outcome → Owes command source.holds outcome)
      → TrailRefused refusal trail source.holds source.faults source.later_faults source.taken source.later_taken → Tells (refused_outcome refusal trail) before faults status after later
      → Answers words source before faults status after later
  trail_refusal_answers Memory trail made owes h says = wanted_answers h says
  trail_refusal_answers (Unread place) trail made owes h says =
      told_answers (NotRead (name_on place trail)) (owes _ (record { finds = h.0.finds; agree = h.0.agree; comes = sym (ap (traced_outcome trail made) h.0.is) })) h.1 says
  trail_refusal_answers (Input place cause) trail made owes h says =
      lack_answers trail place cause (owes _ (record { finds = h.0.finds; agree = h.0.agree; comes = sym (ap (traced_outcome trail made) h.0.is) })) h.1 h.2 says

-- ---- a live run

-- the files of a live run come to an outcome
pub serve_owes : (service : Service) (holds : List ℕ → Told) (whole : Prepared) (outcome : Outcome) → LiveComesTo service holds whole → ServeComesTo service whole outcome → ServeOwes service holds outcome
serve_owes service holds whole outcome files comes = record {
  finds = files.finds;
  agree = files.agree;
  comes = subst (λ (p : Prepared). ServeComesTo service p outcome) (sym files.is) comes;
}

-- what a live run does over its streams that did nothing, where it came to another outcome
pub nothing_over : (command : Option Command) (outcome : Outcome) (streams : Streams) → ((service : Service) → command ≡ Some (Serves service) → ⊥) → Over command outcome streams (streams, Finished)
nothing_over None outcome streams other = refl
nothing_over (Some (Runs plan)) outcome streams other = refl
nothing_over (Some (Serves service)) outcome streams other = absurd (other service refl)
nothing_over (Some (Uses job)) outcome streams other = refl
nothing_over (Some (Generates n)) outcome streams other = refl
nothing_over (Some (Records plan)) outcome streams other = refl
nothing_over (Some (Replays trail)) outcome streams other = refl
nothing_over (Some (Inspects look)) outcome streams other = refl
nothing_over (Some (Helps topic)) outcome streams other = refl

-- nobody is served over streams that nothing touched
pub unserved : (streams : Streams) → Unserved streams streams
unserved streams = record {
  read = refl;
  unread = refl;
  moments = refl;
  said = refl;
  unsaid = refl;
  head = [];
  begins = inl refl;
  told = Ok tt;
  noted = puts-none streams.noted streams.unnoted;
}

module _ (words : List (List ℕ)) (source : Source) (service : Service) (asked : command_of words ≡ Some (Serves service))
    (before : Option (List ℕ)) (faults status : ℕ) (after : Option (List ℕ)) (later : ℕ) where
  -- versions that ran over what came have an outcome of the live run
  abbrev pub served_answers : source.later_faults ≡ source.faults → (setup : Setup) (rules : Option (List Op)) (machines : List Machine) → LiveComesTo service source.holds (Ready setup rules machines)
      → (arrivals : List Arrival) (lengths : List ℕ) (account : Account) → (service.clients ≡ false → lengths ≡ []) → IsRunOf service.clients service.limits (with_hands (with_arrivals setup arrivals) lengths) rules machines account
      → Says [] (run_status account.lines) before faults status after later
      → Answers words source before faults status after later
  served_answers kept setup rules machines files arrivals lengths account only is_run says =
      told_answers words source (Serves service) asked before faults status after later (Served (with_arrivals setup arrivals) lengths account)
      (serve_owes service source.holds (Ready setup rules machines) (Served (with_arrivals setup arrivals) lengths account) files (arrivals, lengths, account, refl, only, is_run)) kept says

  -- memory was wanted of a live run
  abbrev pub starved_answers : source.later_faults ≡ source.faults → Says (text_of NoMemory) 3 before faults status after later → Answers words source before faults status after later
  starved_answers kept says = wanted_answers words source (Serves service) asked before faults status after later kept says

  -- what it did over its streams is that of a live run
  pub over_served : (outcome : Outcome) (streams : Streams) (ended : Streams × Ending) → ServedOver service.clients outcome streams ended → Over (command_of words) outcome streams ended
  over_served outcome streams ended over = subst (λ (command : Option Command). Over command outcome streams ended) (sym asked) over

  module _ (streams : Streams) where
    over_nothing : (a : Answers words source before faults status after later) → ServedOver service.clients a.outcome streams (streams, Finished) → AnswersOver words source streams before faults status after later (streams, Finished)
    over_nothing a over = record { answers = a; over = over_served a.outcome streams (streams, Finished) over }

    wanted_over : source.later_faults ≡ source.faults → Says (text_of NoMemory) 3 before faults status after later → AnswersOver words source streams before faults status after later (streams, Finished)
    wanted_over kept says = over_nothing (starved_answers kept says) (unserved streams, refl)

    unread_over : (name : List ℕ) → Owes (Serves service) source.holds (NotRead name) → Shows (NotRead name) source → Says (text_of (NotRead name)) 5 before faults status after later
        → AnswersOver words source streams before faults status after later (streams, Finished)
    unread_over name owed shown says = over_nothing (told_answers words source (Serves service) asked before faults status after later (NotRead name) owed shown says) refl

    unfit_over : (name : List ℕ) (cause : Cause) → Owes (Serves service) source.holds (NotAccepted FILE_LIMIT name cause) → Shows (NotAccepted FILE_LIMIT name cause) source
        → Says (refused_text name cause) 4 before faults status after later → AnswersOver words source streams before faults status after later (streams, Finished)
    unfit_over name cause owed shown says = over_nothing (told_answers words source (Serves service) asked before faults status after later (NotAccepted FILE_LIMIT name cause) owed shown says) refl

    -- a live run that doesn't start answers its refusal, and does nothing over its streams
    pub live_refusal_answers : (refusal : Refusal) → RefusesLive refusal source.holds service source.faults source.later_faults source.taken source.later_taken
        → Tells (live_outcome_of refusal service) before faults status after later → AnswersOver words source streams before faults status after later (streams, Finished)
    live_refusal_answers Memory h says = wanted_over h says
    live_refusal_answers (Unread place) h says =
        unread_over (name_in place service) (serve_owes service source.holds (prep.Unreadable place) (NotRead (name_in place service)) h.0 refl) h.1 says
    live_refusal_answers (Input place cause) h says =
        ⊎_elim (unfit_over (name_in place service) cause (serve_owes service source.holds (prep.Refused place cause) (NotAccepted FILE_LIMIT (name_in place service) cause) h.0 refl) (h.1, h.2))
        (wanted_over h.1) says
