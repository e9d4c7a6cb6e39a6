-- What is told decides what the files of a version that follows a trace come to, where nothing turns out to be unreadable.
use Rattle.std.proofs.Common.{◌≡◌, sym, subst, refl, ⊎_elim, ◌⊎◌, ℕ, List, Option, None, Some, option_map, Result, Ok, Err}
use Rattle.nv_outside.specs.Told.{Told}
use Rattle.nv_bpf.specs.declared.op.Op.{Op}
use Rattle.nv_calls.specs.Calls.{Entry}
use Rattle.nv_machine.specs.Guest.{Machine}
use Rattle.nv_driver.specs.Words.{Trail}
use Rattle.nv_script.specs.Scripts.{Setup}
use Rattle.nv_driver.specs.Found.{Found, Unread, AgreesIf, AgreesWithin, FILE_LIMIT, TRACE_LIMIT, script_limit, found_of, found_within}
use Rattle.nv_driver.specs.Traced.{Traced, TraceFinds, AreTraceFound, Lack, Unreadable, Refused, then_with, script_at, rules_at, log_at, machine_traced, after_log, after_filter, after_setup, traced, trace_finds_of}
use Rattle.nv_driver.specs.declared.refusal.Place.{Place}
use Rattle.nv_driver.specs.declared.refusal.Place.TheVariants.{Script, Rules, Trace, Version}
use Rattle.nv_driver.proofs.Decided.{same_within}

-- a file can't be read
abbrev pub LacksRead : {X : Type 0} → Result X Lack → Type 0
LacksRead (Ok x) = ⊥
LacksRead (Err (Unreadable place)) = Unit {0}
LacksRead (Err (Refused place cause)) = ⊥

module _ {X Y : Type 0} (use_it other : X → Result Y Lack) (same : (x : X) → (LacksRead (use_it x) → ⊥) → (LacksRead (other x) → ⊥) → use_it x ≡ other x) where
  same_given : (given : Result X Lack) → (LacksRead (then_with use_it given) → ⊥) → (LacksRead (then_with other given) → ⊥) → then_with use_it given ≡ then_with other given
  same_given (Ok x) here there = same x here there
  same_given (Err lack) here there = refl

  same_step : (limit : ℕ) (told : Told) (found : Found) (step : Found → Result X Lack) (place : Place) → step Unread ≡ Err (Unreadable place) → AgreesWithin limit told found
      → (LacksRead (then_with use_it (step found)) → ⊥) → (LacksRead (then_with other (step (found_within limit told))) → ⊥)
      → then_with use_it (step found) ≡ then_with other (step (found_within limit told))
  same_step limit told found step place unread a here there =
      ⊎_elim (λ (e : found ≡ Unread). absurd (here (subst (λ (f : Found). LacksRead (then_with use_it (step f))) (sym e) (lacks use_it))))
      (λ (r : (found_within limit told ≡ Unread) ⊎ (found ≡ found_within limit told)). ⊎_elim
      (λ (e : found_within limit told ≡ Unread). absurd (there (subst (λ (f : Found). LacksRead (then_with other (step f))) (sym e) (lacks other))))
      (λ (e : found ≡ found_within limit told). subst (λ (f : Found). (LacksRead (then_with other (step f)) → ⊥) → then_with use_it (step found) ≡ then_with other (step f)) e
      (same_given (step found) here) there) r)
      (same_within limit told found a)
    where
      lacks : (k : X → Result Y Lack) → LacksRead (then_with k (step Unread))
      lacks k = subst (λ (r : Result X Lack). LacksRead (then_with k r)) (sym unread) tt

module _ (trail : Trail) (holds : List ℕ → Told) (setup : Setup) where
  same_version : (filter : Option (List Op)) (found : Found) → AgreesWithin FILE_LIMIT (holds trail.version) found → (log : List Entry)
      → (LacksRead (after_log trail found setup filter log) → ⊥) → (LacksRead (after_log trail (found_of (holds trail.version)) setup filter log) → ⊥)
      → after_log trail found setup filter log ≡ after_log trail (found_of (holds trail.version)) setup filter log
  same_version filter found a log here there =
      let with_machine : Machine → Result Traced Lack = λ machine. Ok (record { setup = setup; rules = filter; log = log; machine = machine }) in
      same_step with_machine with_machine (λ machine no_lack none. refl) FILE_LIMIT (holds trail.version) found (machine_traced trail setup) (Version trail.index) refl a here there

  same_log : (trace version : Found) → AgreesWithin TRACE_LIMIT (holds trail.trace) trace → AgreesWithin FILE_LIMIT (holds trail.version) version → (filter : Option (List Op))
      → (LacksRead (after_filter trail trace version setup filter) → ⊥) → (LacksRead (after_filter trail (found_within TRACE_LIMIT (holds trail.trace)) (found_of (holds trail.version)) setup filter) → ⊥)
      → after_filter trail trace version setup filter ≡ after_filter trail (found_within TRACE_LIMIT (holds trail.trace)) (found_of (holds trail.version)) setup filter
  same_log trace version a b filter here there =
      same_step (after_log trail version setup filter) (after_log trail (found_of (holds trail.version)) setup filter) (same_version filter version b)
      TRACE_LIMIT (holds trail.trace) trace (log_at setup) Trace refl a here there

-- the rules that are found are those that are told
same_filter : {Y : Type 0} (holds : List ℕ → Told) (name : Option (List ℕ)) (found : Option Found) (use_it other : Option (List Op) → Result Y Lack) → AgreesIf holds name found
    → ((x : Option (List Op)) → (LacksRead (use_it x) → ⊥) → (LacksRead (other x) → ⊥) → use_it x ≡ other x)
    → (LacksRead (then_with use_it (rules_at found)) → ⊥) → (LacksRead (then_with other (rules_at (option_map (λ n. found_of (holds n)) name))) → ⊥)
    → then_with use_it (rules_at found) ≡ then_with other (rules_at (option_map (λ n. found_of (holds n)) name))
same_filter holds None None use_it other a same here there = same None here there
same_filter holds None (Some found) use_it other a same here there = absurd a
same_filter holds (Some name) None use_it other a same here there = absurd a
same_filter holds (Some name) (Some found) use_it other a same here there =
    same_step use_it other same FILE_LIMIT (holds name) found (λ (f : Found). rules_at (Some f)) Rules refl a here there

-- what the files come to is what those that are told come to
pub same_traced : (trail : Trail) (holds : List ℕ → Told) (finds : TraceFinds) → AreTraceFound trail holds finds
    → (LacksRead (traced trail finds) → ⊥) → (LacksRead (traced trail (trace_finds_of holds trail)) → ⊥) → traced trail finds ≡ traced trail (trace_finds_of holds trail)
same_traced trail holds finds agree here there =
    same_step (after_setup trail finds) (after_setup trail (trace_finds_of holds trail))
    (λ setup. same_filter holds trail.rules finds.rules (after_filter trail finds.trace finds.version setup)
    (after_filter trail (found_within TRACE_LIMIT (holds trail.trace)) (found_of (holds trail.version)) setup) agree.rules
    (same_log trail holds setup finds.trace finds.version agree.trace agree.version))
    (script_limit trail.script) (holds trail.script.name) finds.script script_at Script refl agree.script here there
